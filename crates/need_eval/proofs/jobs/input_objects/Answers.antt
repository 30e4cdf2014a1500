use Rattle.std.proofs.Common.{sym, ◌∙◌, arith}
use Rattle.std.proofs.lemmas.Result.{err_from_is_err_and}
use Rattle.object_name.proofs.PublicLaws.{tries-trans}
use Rattle.need_eval.specs.Evaluation.{input_object}
use Rattle.need_eval.proofs.InputsAreRead.{AreLeft-more, AreLeft-stop, AreLeft-end, sized-more, sized-end}
use Rattle.need_eval.proofs.jobs.input_objects.Goals as goal

pub inputs-preserved : goal.inputs-preserved
inputs-preserved g c = record {
  same = λ told. c.input_object.ensures.only_reads.same told ∙ c.inputs.invariant.same told;
  list = λ told. c.input_object.ensures.only_reads.list told ∙ c.inputs.invariant.list told;
  later = omega (arith, c.input_object.ensures.only_reads.later, c.inputs.invariant.later);
  tried = λ told.
      tries-trans c.args.retries g.K.Keeper.calls g.K.Keeper.faults c.args.keeper.now c.inputs.keeper c.input_object.new.keeper 0 (c.inputs.invariant.tried told) (c.in_ok-input.ensures.only_reads.tries told);
  left = λ told s at. rw c.in_ok-push.ensures.ok (AreLeft-more input_object c.args.inputs.now c.inputs.read c.inputs.path-index c.inputs-item.result s c.inputs-test.true c.inputs-item.is
      c.in_ok-input.input (c.in_ok-input.ensures.reads told s (at ∙ sym (c.inputs.invariant.same told))) (c.inputs.invariant.left told s at));
  sized = rw c.in_ok-push.ensures.ok (sized-more c.args.inputs.now c.inputs.read c.inputs.path-index c.inputs-item.result c.in_ok-input.input c.inputs-test.true c.inputs-item.is c.in_ok-input.ensures.sized c.inputs.invariant.sized);
}

pub returns-in_err-input-clause-reads : goal.returns-in_err-input-clause-reads
returns-in_err-input-clause-reads g c = λ told s at.
    let p = err_from_is_err_and c.from_residual.result c.from_residual.ensures.1 in
    rw (p.1, p.2) (AreLeft-stop input_object c.args.inputs.now c.inputs.read c.inputs.path-index c.inputs-item.result s c.inputs-test.true c.inputs-item.is
    c.in_err-input.field-0.0 (c.in_err-input.ensures.reads told s (at ∙ sym (c.inputs.invariant.same told))) (c.inputs.invariant.left told s at))

pub returns-clause-reads : goal.returns-clause-reads
returns-clause-reads g c = λ told s at.
    AreLeft-end input_object c.args.inputs.now c.inputs.read c.inputs.path-index s (omega (arith, c.inputs-test.false, c.inputs.auto.path-index-end)) (c.inputs.invariant.left told s at)

pub returns-clause-sized : goal.returns-clause-sized
returns-clause-sized g c =
    sized-end c.args.inputs.now c.inputs.read c.inputs.path-index (omega (arith, c.inputs-test.false, c.inputs.auto.path-index-end)) c.inputs.invariant.sized
