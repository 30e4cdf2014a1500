use Rattle.std.proofs.Common.{◌≡◌, refl, sym, ap, ◌∙◌, length, ◌<◌, arith, None, List, true, false}
use Rattle.std.specs.Option.{is_some}
use Rattle.std.proofs.lemmas.Option.{slice_get_read, slice_get_past}
use Rattle.std.proofs.lemmas.List.{get_or_default}
use Rattle.lease_table.proofs.PublicLaws.{altered}
use Rattle.force_core.specs.Book.{Task, taken}
use Rattle.force_core.specs.Known.{is_untaken}
use Rattle.force_core.proofs.Indexed.{index-taken}
use Rattle.force_core.proofs.Replay.{alter-past}
use Rattle.force_core.proofs.Untaken.{no-outcome, alter-none, waits-with, gone-by, count-gone, bytes-gone}
use Rattle.force_core.proofs.tasks.Tasks.take.Goals as goal

pub returns-then-id-len-clause-taken : goal.returns-then-id-len-clause-taken
returns-then-id-len-clause-taken g c = rw (← c.self.view_is) (sym (alter-past taken c.self.inside.entries.items c.args.id (omega arith)))

pub returns-then-id-len-clause-outcome : goal.returns-then-id-len-clause-outcome
returns-then-id-len-clause-outcome g c = rw (← c.self.view_is) (rw (slice_get_past c.self.inside.entries.items c.args.id (omega arith)) refl)

pub returns-then-not-has_outcome-clause-taken : goal.returns-then-not-has_outcome-clause-taken
returns-then-not-has_outcome-clause-taken g c =
    let items : List Task = c.self.inside.entries.items in
    let task : Task = c.index-entry.result.now in
    let off : c.has_outcome.result ≡ false = grind (arith, c.if-not-has_outcome.true) in
    let none : task.outcome ≡ None = no-outcome task (sym c.has_outcome.ensures ∙ off) in
    rw (← c.self.view_is) (sym (alter-none items c.args.id task (omega arith) c.index-entry.ensures none))

pub returns-then-not-has_outcome-clause-outcome : goal.returns-then-not-has_outcome-clause-outcome
returns-then-not-has_outcome-clause-outcome g c =
    let items : List Task = c.self.inside.entries.items in
    let task : Task = c.index-entry.result.now in
    let off : c.has_outcome.result ≡ false = grind (arith, c.if-not-has_outcome.true) in
    let none : task.outcome ≡ None = no-outcome task (sym c.has_outcome.ensures ∙ off) in
    rw (← c.self.view_is) (rw (slice_get_read items (length items) c.args.id task refl (omega arith) c.index-entry.ensures) (sym none))

pub invariant_of-self : goal.invariant_of-self
invariant_of-self g c =
    let items : List Task = c.self.inside.entries.items in
    let task : Task = c.index-entry.result.now in
    let next : Task = c.take.new.self in
    let below : c.args.id < length items = omega arith in
    let on : c.has_outcome.result ≡ true = grind (arith, c.if-not-has_outcome.false) in
    let some : is_some task.outcome ≡ true = sym c.has_outcome.ensures ∙ on in
    let waits : is_untaken task ≡ true = waits-with task some in
    let same : task ≡ c.index_mut.result.now = c.index-entry.ensures ∙ get_or_default items c.args.id task c.index_mut.result.now below ∙ sym c.index_mut.ensures.value in
    let found : c.take.result ≡ task.outcome = c.take.ensures.outcome ∙ ap (λ (t : Task). t.outcome) (sym same) in
    let gone : is_untaken next ≡ false = gone-by task next c.take.result some found c.take.ensures.gone in
    let count = count-gone items c.args.id task next below c.index-entry.ensures waits gone in
    let bytes = bytes-gone items c.args.id task next below c.index-entry.ensures waits gone in (
      c.self.invariant.0,
      omega (arith, c.self.invariant.1),
      omega (arith, count, c.self.invariant.2),
      omega (arith, bytes, c.size.ensures.size, c.self.invariant.3),
      index-taken c.self.inside.index c.take_out.new.self items c.args.id next c.self.invariant.4 c.take_out.ensures.kept gone,
      c.self.invariant.5,
      λ more. c.take_out.ensures.room (c.self.invariant.6 more),
    )

pub returns-clause-taken : goal.returns-clause-taken
returns-clause-taken g c = rw (← c.self.view_is) (altered taken c.self.inside.entries.items c.args.id c.index_mut.result.now c.take.new.self c.index_mut.ensures.value c.take.ensures.taken)

pub returns-clause-outcome : goal.returns-clause-outcome
returns-clause-outcome g c =
    rw (← c.self.view_is) (rw (slice_get_read c.self.inside.entries.items (length c.self.inside.entries.items) c.args.id c.index_mut.result.now refl (omega arith) c.index_mut.ensures.value) c.take.ensures.outcome)

pub returns-clause-is : goal.returns-clause-is
returns-clause-is g c =
    rw (← c.self.view_is) (rw (slice_get_read c.self.inside.entries.items (length c.self.inside.entries.items) c.args.id c.index_mut.result.now refl (omega arith) c.index_mut.ensures.value) c.take.ensures.is)
