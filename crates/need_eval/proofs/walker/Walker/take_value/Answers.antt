use Rattle.std.proofs.Common.{refl}
use Rattle.std.proofs.lemmas.Result.{err_from_is_err_and}
use Rattle.need_eval.proofs.WalkerStaysSound.{sound-gathering}
use Rattle.need_eval.proofs.TurnsGoOn.{here, onward-value, onward-value-stops}
use Rattle.need_eval.proofs.walker.Walker.take_value.Goals as goal

pub returns-in_err-object-clause-turns : goal.returns-in_err-object-clause-turns
returns-in_err-object-clause-turns g c = λ told.
    let p = err_from_is_err_and c.from_residual.result c.from_residual.ensures.1 in
    let store = g.K.Keeper.store c.args.keeper.now in
    rw (p.1, p.2) (λ answer writes asked. onward-value-stops c.args.self.now store answer writes asked c.args.name c.in_err-object.field-0.0 c.requires.next
    (c.in_err-object.ensures.reads told (here c.args.self.now store answer writes asked) refl))

pub returns-clause-turns : goal.returns-clause-turns
returns-clause-turns g c = λ told answer writes asked.
    let store = g.K.Keeper.store c.args.keeper.now in
    onward-value c.args.self.now store answer writes asked c.args.name c.gather.new.self.done c.gather.new.self.rest.items c.in_ok-object.field-0 c.requires.next
    c.in_ok-gather.ensures.done c.in_ok-gather.ensures.rest (c.in_ok-object.ensures.reads told (here c.args.self.now store answer writes asked) refl)

pub invariant_of-self-clause-sound : goal.invariant_of-self-clause-sound
invariant_of-self-clause-sound g c =
    let w = c.args.self.now in
    sound-gathering c.gather.result w.frames.items w.level.done c.gather.new.self.done w.level.rest.items c.gather.new.self.rest.items c.args.name c.requires.next
    c.gather.ensures.done c.gather.ensures.rest c.gather.ensures.done_stays c.gather.ensures.rest_stays w.sound
