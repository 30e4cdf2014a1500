use Rattle.std.proofs.Common.{refl, sym, ap, subst, ◌∙◌, ◌∷◌, drop, add-one}
use Rattle.std.proofs.lemmas.Result.{err_from_is_err_and}
use Rattle.need_eval.specs.declared.frame.Frame.{Frame}
use Rattle.object_name.specs.Causes.{TriesAtMost}
use Rattle.need_eval.proofs.NothingFails.{fault-unfailing}
use Rattle.need_eval.proofs.WalkerStaysSound.{sound-enter}
use Rattle.need_eval.proofs.TurnsGoOn.{here, onward-enter, onward-thunk-stops, onward-entry-stops}
use Rattle.thunk_codec.specs.declared.reference.Ref.TheVariants.{Out}
use Rattle.need_eval.proofs.walker.Walker.enter.Goals as goal

pub returns-in_err-thunk-clause-turns : goal.returns-in_err-thunk-clause-turns
returns-in_err-thunk-clause-turns g c = λ told.
    let p = err_from_is_err_and c.from_residual.result c.from_residual.ensures.1 in
    let store = g.K.Keeper.store c.args.keeper.now in
    rw (p.1, p.2) (λ answer writes asked. onward-thunk-stops c.args.self.now store answer writes asked c.args.name c.args.index c.requires.next c.requires.not_reduced c.in_err-thunk.field-0.0
    (c.in_err-thunk.ensures.reads told (here c.args.self.now store answer writes asked) refl))

pub returns-in_err-check_entry-clause-turns : goal.returns-in_err-check_entry-clause-turns
returns-in_err-check_entry-clause-turns g c = λ told.
    let p = err_from_is_err_and c.from_residual-in_err-check_entry.result c.from_residual-in_err-check_entry.ensures.1 in
    let store = g.K.Keeper.store c.args.keeper.now in
    rw (p.1, p.2) (λ answer writes asked. onward-entry-stops c.args.self.now store answer writes asked c.args.name c.args.index c.requires.next c.requires.not_reduced c.in_ok-thunk.thunk c.in_err-check_entry.field-0.0
    (c.in_ok-thunk.ensures.reads told (here c.args.self.now store answer writes asked) refl)
    (c.in_err-check_entry.ensures.reads (here c.args.self.now store answer writes asked) refl))

pub returns-in_err-check_entry-clause-only_reads : goal.returns-in_err-check_entry-clause-only_reads
returns-in_err-check_entry-clause-only_reads g c =
    let p = err_from_is_err_and c.from_residual-in_err-check_entry.result c.from_residual-in_err-check_entry.ensures.1 in
    record {
      same = c.thunk_at.ensures.only_reads.same;
      list = c.thunk_at.ensures.only_reads.list;
      later = c.thunk_at.ensures.only_reads.later;
      tries = λ told.
          rw (p.1, p.2) (subst (TriesAtMost c.args.self.now.retries g.K.Keeper.calls g.K.Keeper.faults c.args.keeper.now c.thunk_at.new.keeper)
          (sym (fault-unfailing c.in_err-check_entry.field-0.0 c.in_err-check_entry.ensures.cause)) (c.in_ok-thunk.ensures.only_reads.tries told));
      cause = rw (p.1, p.2) (c.in_err-check_entry.ensures.cause c.args.self.now.retries (g.K.Keeper.faults c.args.keeper.now) (g.K.Keeper.faults c.thunk_at.new.keeper));
    }

pub invariant_of-self-2-clause-sound : goal.invariant_of-self-2-clause-sound
invariant_of-self-2-clause-sound g c =
    let frame : Frame = record { name = c.args.name; index = c.args.index; thunk = c.in_ok-thunk.thunk; outer = record { done = c.replace-outer.result.done; rest = c.pop_front.new.self } } in
    let w = c.args.self.now in
    sound-enter w.frames.items w.level.done w.level.rest.items (Out c.args.name c.args.index) _ frame c.push_front_reserved.new.self.items c.replace-outer.new.dest.done c.replace-outer.new.dest.rest.items
    c.requires.next (ap (λ level. level.done) c.replace-outer.ensures.value) (c.pop_front.ensures.rest ∙ ap (λ level. drop 1 level.rest.items) c.replace-outer.ensures.value)
    (c.push_front_reserved.ensures.items ∙ ap (λ frames. frame ∷ frames) c.in_ok-reserve.ensures.items)
    (ap (λ level. level.done) c.replace-outer.ensures.after ∙ c.in_ok-inside.ensures.done)
    (ap (λ level. level.rest.items) c.replace-outer.ensures.after ∙ c.in_ok-inside.ensures.rest)
    c.in_ok-inside.ensures.rules w.sound

pub returns-clause-turns : goal.returns-clause-turns
returns-clause-turns g c = λ told answer writes asked.
    let store = g.K.Keeper.store c.args.keeper.now in
    let w = c.args.self.now in
    let frame : Frame = record { name = c.args.name; index = c.args.index; thunk = c.in_ok-thunk.thunk; outer = record { done = c.replace-outer.result.done; rest = c.pop_front.new.self } } in
    onward-enter w store answer writes asked c.args.name c.args.index c.requires.next c.requires.not_reduced c.in_ok-thunk.thunk frame c.push_front_reserved.new.self.items c.replace-outer.new.dest.done c.replace-outer.new.dest.rest.items _
    (c.in_ok-thunk.ensures.reads told (here w store answer writes asked) refl)
    (c.in_ok-check_entry.ensures.reads (here w store answer writes asked) refl)
    refl refl refl (ap (λ level. level.done) c.replace-outer.ensures.value) (c.pop_front.ensures.rest ∙ ap (λ level. drop 1 level.rest.items) c.replace-outer.ensures.value)
    (c.push_front_reserved.ensures.items ∙ ap (λ frames. frame ∷ frames) c.in_ok-reserve.ensures.items)
    (ap (λ level. level.done) c.replace-outer.ensures.after ∙ c.in_ok-inside.ensures.done)
    (ap (λ level. level.rest.items) c.replace-outer.ensures.after ∙ c.in_ok-inside.ensures.rest)
    (add-one w.steps)
