use Rattle.std.proofs.lemmas.Result.{err_from_is_err_and}
use Rattle.job_wire.specs.Reading.{things_at}
use Rattle.job_wire.proofs.Loop.{goes_on, ends, is_done}
use Rattle.job_wire.proofs.list.things_at.Goals as goal

pub returns-in_err-thing : goal.returns-in_err-thing
returns-in_err-thing g c =
    let p = err_from_is_err_and c.from_residual.result c.from_residual.ensures.1 in
    rw (p.1, p.2) (ends g.T.Field.at c.in_err-thing.field-0.0 c.things.things c.args.number c.things.counter c.things.rest.now (things_at g.T.Field.at c.args.number c.args.bytes.now) c.things-test.true c.in_err-thing.ensures c.things.invariant)

pub things-preserved : goal.things-preserved
things-preserved g c =
    rw c.in_ok-push.ensures.ok (goes_on g.T.Field.at c.things.things c.args.number c.things.counter c.things.rest.now c.in_ok-thing.thing c.in_ok-thing.after.now (things_at g.T.Field.at c.args.number c.args.bytes.now) c.things-test.true c.in_ok-thing.ensures c.things.invariant)

pub returns : goal.returns
returns g c = is_done g.T.Field.at c.things.things c.args.number c.things.counter c.things.rest.now (things_at g.T.Field.at c.args.number c.args.bytes.now) c.things-test.false c.things.invariant
