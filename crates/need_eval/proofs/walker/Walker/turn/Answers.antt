use Rattle.std.proofs.lemmas.Result.{err_from_is_err_and}
use Rattle.need_eval.proofs.walker.Walker.turn.Goals as goal

pub returns-in_err-take-clause-turns : goal.returns-in_err-take-clause-turns
returns-in_err-take-clause-turns g c = λ told.
    let p = err_from_is_err_and c.from_residual.result c.from_residual.ensures.1 in
    rw (p.1, p.2) (c.in_err-take.ensures.turns told)
