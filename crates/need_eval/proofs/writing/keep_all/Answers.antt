use Rattle.blob_store.specs.Keeping.{kept}
use Rattle.std.proofs.Common.{arith, List, ◌+◌, ◌++◌, ◌∷◌, [], sym, ap, subst, ◌∙◌, length}
use Rattle.object_name.specs.Name.{ObjectName}
use Rattle.std.proofs.lemmas.List.{length_push}
use Rattle.std.proofs.lemmas.Result.{err_from_is_err_and}
use Rattle.object_name.proofs.PublicLaws.{tries-none, tries-trans}
use Rattle.need_eval.proofs.OutputsAreWritten.{ArePut, ArePut-start, ArePut-more, ArePut-stop, ArePut-prefix, ArePut-end}
use Rattle.need_eval.proofs.writing.keep_all.Goals as goal

pub outputs-init : goal.outputs-init
outputs-init g c =
    let old = kept g.K.Keeper.store g.K.Keeper.writes c.args.keeper.now in
    record {
      later = omega arith;
      tried = λ told. tries-none c.args.retries g.K.Keeper.calls g.K.Keeper.faults c.args.keeper.now;
      number = ap length c.new-names.ensures;
      stored = λ told. subst (λ (names : List ObjectName). ArePut c.args.outputs.now old old 0 names) (sym c.new-names.ensures) (ArePut-start c.args.outputs.now old);
    }

pub returns-in_err-name-clause-puts : goal.returns-in_err-name-clause-puts
returns-in_err-name-clause-puts g c = λ told.
    let p = err_from_is_err_and c.from_residual.result c.from_residual.ensures.1 in
    let stops = rw c.as_slice.ensures at (c.in_err-name.ensures.puts told) in
    rw (p.1, p.2) (ArePut-stop c.args.outputs.now (kept g.K.Keeper.store g.K.Keeper.writes c.args.keeper.now) (kept g.K.Keeper.store g.K.Keeper.writes c.outputs.keeper) c.outputs.output-index c.outputs.names (c.outputs.invariant.stored told) c.output-item.result c.outputs-test.true c.output-item.is (kept g.K.Keeper.store g.K.Keeper.writes c.keep.new.keeper) c.in_err-name.field-0.0 stops)

pub returns-in_err-push-clause-puts : goal.returns-in_err-push-clause-puts
returns-in_err-push-clause-puts g c = λ told.
    let p = err_from_is_err_and c.from_residual-in_err-push.result c.from_residual-in_err-push.ensures.1 in
    let puts = rw c.as_slice.ensures at (c.in_ok-name.ensures.puts told) in
    let more = ArePut-more c.args.outputs.now (kept g.K.Keeper.store g.K.Keeper.writes c.args.keeper.now) (kept g.K.Keeper.store g.K.Keeper.writes c.outputs.keeper) c.outputs.output-index c.outputs.names (c.outputs.invariant.stored told) c.output-item.result c.outputs-test.true c.output-item.is (kept g.K.Keeper.store g.K.Keeper.writes c.keep.new.keeper) c.in_ok-name.name puts in
    rw (p.1, p.2) (ArePut-prefix c.args.outputs.now (kept g.K.Keeper.store g.K.Keeper.writes c.args.keeper.now) (kept g.K.Keeper.store g.K.Keeper.writes c.keep.new.keeper) (c.outputs.output-index + 1) (c.outputs.names ++ c.in_ok-name.name ∷ []) more)

pub outputs-preserved : goal.outputs-preserved
outputs-preserved g c = record {
  later = omega (arith, c.keep.ensures.cause.later, c.outputs.invariant.later);
  tried = λ told.
      tries-trans c.args.retries g.K.Keeper.calls g.K.Keeper.faults c.args.keeper.now c.outputs.keeper c.keep.new.keeper 0 (c.outputs.invariant.tried told) (c.in_ok-name.ensures.tries told);
  number = ap length c.in_ok-push.ensures.ok ∙ length_push c.outputs.names c.in_ok-name.name ∙ ap (λ n. n + 1) c.outputs.invariant.number;
  stored = λ told.
      let puts = rw c.as_slice.ensures at (c.in_ok-name.ensures.puts told) in
      rw c.in_ok-push.ensures.ok
      (ArePut-more c.args.outputs.now (kept g.K.Keeper.store g.K.Keeper.writes c.args.keeper.now) (kept g.K.Keeper.store g.K.Keeper.writes c.outputs.keeper) c.outputs.output-index c.outputs.names (c.outputs.invariant.stored told) c.output-item.result c.outputs-test.true c.output-item.is (kept g.K.Keeper.store g.K.Keeper.writes c.keep.new.keeper) c.in_ok-name.name puts);
}

pub returns-clause-puts : goal.returns-clause-puts
returns-clause-puts g c = λ told.
    ArePut-end c.args.outputs.now (kept g.K.Keeper.store g.K.Keeper.writes c.args.keeper.now) (kept g.K.Keeper.store g.K.Keeper.writes c.outputs.keeper) c.outputs.output-index c.outputs.names (omega (arith, c.outputs-test.false, c.outputs.auto.output-index-end)) (c.outputs.invariant.stored told)
