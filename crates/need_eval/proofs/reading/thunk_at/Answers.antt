use Rattle.std.proofs.lemmas.Result.{err_from_is_err_and}
use Rattle.need_eval.proofs.ReadingStops.{thunk_at_stops}
use Rattle.need_eval.proofs.reading.thunk_at.Goals as goal

pub returns-in_err-bytes-clause-reads : goal.returns-in_err-bytes-clause-reads
returns-in_err-bytes-clause-reads g c = λ told s at.
    let p = err_from_is_err_and c.from_residual.result c.from_residual.ensures.1 in
    rw (p.1, p.2) (thunk_at_stops c.args.name.now s c.in_err-bytes.field-0.0 (c.in_err-bytes.ensures.reads told s at))
