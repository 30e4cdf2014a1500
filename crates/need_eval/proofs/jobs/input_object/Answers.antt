use Rattle.std.proofs.lemmas.Result.{err_from_is_err_and}
use Rattle.need_eval.proofs.ReadingStops.{input_object_stops, input_object_gives}
use Rattle.need_eval.proofs.jobs.input_object.Goals as goal

pub returns-in_err-bytes-clause-reads : goal.returns-in_err-bytes-clause-reads
returns-in_err-bytes-clause-reads g c = λ told s here.
    let p = err_from_is_err_and c.from_residual.result c.from_residual.ensures.1 in
    let stops = rw c.name.ensures at (c.in_err-bytes.ensures.reads told s here) in
    rw (p.1, p.2) (input_object_stops (c.args.path.now, c.args.reference.now) s c.in_err-bytes.field-0.0 stops)

pub returns-clause-reads : goal.returns-clause-reads
returns-clause-reads g c = λ told s here.
    let gives = rw c.name.ensures at (c.in_ok-bytes.ensures.reads told s here) in
    input_object_gives (c.args.path.now, c.args.reference.now) s c.in_ok-path.path c.in_ok-bytes.bytes c.in_ok-path.ensures gives

pub returns-clause-sized : goal.returns-clause-sized
returns-clause-sized g c =
    let named = rw c.name.ensures at c.in_ok-bytes.ensures.named in
    λ i. (c.in_ok-path.ensures i, (named i).size)
