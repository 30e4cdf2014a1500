use Rattle.std.proofs.lemmas.Result.{err_from_is_err_and}
use Rattle.need_eval.proofs.TurnsAddUp.{goes-stops, goes-comes}
use Rattle.need_eval.proofs.walker.Walker.turns.Goals as goal

pub returns-in_err-halt-clause-walks : goal.returns-in_err-halt-clause-walks
returns-in_err-halt-clause-walks g c = λ told.
    let p = err_from_is_err_and c.from_residual.result c.from_residual.ensures.1 in
    rw (p.1, p.2) (goes-stops c.args.self.now c.turns.self (g.K.Keeper.store c.args.keeper.now) (g.K.Keeper.store c.turns.keeper) c.in_err-halt.field-0.0
    (c.turns.invariant.same told) (c.turns.invariant.goes told) (c.in_err-halt.ensures.turns told))

pub returns-in-Some-clause-walks : goal.returns-in-Some-clause-walks
returns-in-Some-clause-walks g c = λ told.
    goes-comes c.args.self.now c.turns.self c.turn.new.self (g.K.Keeper.store c.args.keeper.now) (g.K.Keeper.store c.turns.keeper) c.in-Some.halt
    (c.turns.invariant.same told) (c.turns.invariant.goes told) (rw c.in-Some.is at (c.in_ok-halt.ensures.turns told))
