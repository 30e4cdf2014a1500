use Rattle.std.proofs.Common.{◌≡◌, true, false, refl, sym, ◌∙◌}
use Rattle.reduction_cache.proofs.HitCases.{hit_nothing, hit_unread, hit_other, hit_uncounted, hit_held}
use Rattle.reduction_cache.proofs.hits.hit.Goals as goal

pub returns-in_default-clause-found : goal.returns-in_default-clause-found
returns-in_default-clause-found g c = λ tells.
    hit_nothing (g.K.Keeper.store c.args.keeper.now) c.args.resolved.now c.args.outputs c.in_ok-bytes.field-0 (c.in_ok-bytes.ensures.found tells) c.in_default.is

pub returns-in_default-2-clause-found : goal.returns-in_default-2-clause-found
returns-in_default-2-clause-found g c = λ tells.
    hit_unread (g.K.Keeper.store c.args.keeper.now) c.args.resolved.now c.args.outputs c.in_ok-bytes.field-0 c.in-Some.bytes c.as_slice.result.now c.in_ok-note.field-0
    (record { there = c.in_ok-bytes.ensures.found tells; some = c.in-Some.is; whole = c.as_slice.ensures; note = c.in_ok-note.ensures.exact }) c.in_default-2.is

pub returns-then-not-is_same-clause-found : goal.returns-then-not-is_same-clause-found
returns-then-not-is_same-clause-found g c = λ tells.
    hit_other (g.K.Keeper.store c.args.keeper.now) c.args.resolved.now c.args.outputs c.in_ok-bytes.field-0 c.in-Some.bytes c.as_slice.result.now c.in_ok-note.field-0 c.in-Some-2.note
    (record { there = c.in_ok-bytes.ensures.found tells; some = c.in-Some.is; whole = c.as_slice.ensures; note = c.in_ok-note.ensures.exact }) c.in-Some-2.is
    (λ e. let no : false ≡ true = c.if-not-is_same.ensures.1 e in cc no)

pub returns-then-len-outputs-clause-found : goal.returns-then-len-outputs-clause-found
returns-then-len-outputs-clause-found g c = λ tells.
    hit_uncounted (g.K.Keeper.store c.args.keeper.now) c.args.resolved.now c.args.outputs c.in_ok-bytes.field-0 c.in-Some.bytes c.as_slice.result.now c.in_ok-note.field-0 c.in-Some-2.note
    (record { there = c.in_ok-bytes.ensures.found tells; some = c.in-Some.is; whole = c.as_slice.ensures; note = c.in_ok-note.ensures.exact }) c.in-Some-2.is
    (c.if-not-is_same.ensures.0 refl) (λ e. c.if-len-outputs.true (c.len.ensures ∙ e))

pub returns-then-not-branch-clause-found : goal.returns-then-not-branch-clause-found
returns-then-not-branch-clause-found g c = λ tells.
    hit_held (g.K.Keeper.store c.args.keeper.now) c.args.resolved.now c.args.outputs c.in_ok-bytes.field-0 c.in-Some.bytes c.as_slice.result.now c.in_ok-note.field-0 c.in-Some-2.note
    (record { there = c.in_ok-bytes.ensures.found tells; some = c.in-Some.is; whole = c.as_slice.ensures; note = c.in_ok-note.ensures.exact }) c.in-Some-2.is
    (c.if-not-is_same.ensures.0 refl) (sym c.len.ensures ∙ c.if-len-outputs.false) (g.K.Keeper.store c.get_note_again.new.keeper) c.as_slice-2.result.now c.in_ok-are_held.field-0 false
    (c.get_note_again.ensures.same tells) c.as_slice-2.ensures (c.in_ok-are_held.ensures.held tells) c.if-not-branch.true

pub returns-clause-found : goal.returns-clause-found
returns-clause-found g c = λ tells.
    hit_held (g.K.Keeper.store c.args.keeper.now) c.args.resolved.now c.args.outputs c.in_ok-bytes.field-0 c.in-Some.bytes c.as_slice.result.now c.in_ok-note.field-0 c.in-Some-2.note
    (record { there = c.in_ok-bytes.ensures.found tells; some = c.in-Some.is; whole = c.as_slice.ensures; note = c.in_ok-note.ensures.exact }) c.in-Some-2.is
    (c.if-not-is_same.ensures.0 refl) (sym c.len.ensures ∙ c.if-len-outputs.false) (g.K.Keeper.store c.get_note_again.new.keeper) c.as_slice-2.result.now c.in_ok-are_held.field-0 true
    (c.get_note_again.ensures.same tells) c.as_slice-2.ensures (c.in_ok-are_held.ensures.held tells) c.if-not-branch.false
