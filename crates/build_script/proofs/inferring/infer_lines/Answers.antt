use Rattle.std.proofs.Common.{◌+◌, List, [], ◌∷◌, Err, refl, subst, take, drop, arith}
use Rattle.std.proofs.lemmas.Result.{err_from_is_err_and}
use Rattle.object_name.proofs.PublicLaws.{tries-none, tries-trans}
use Rattle.blob_store.specs.Keeping.{kept}
use Rattle.file_tree.specs.Files.{filed_in}
use Rattle.build_plan.specs.Applying.{sides}
use Rattle.build_script.specs.declared.lines.ScriptLine.{ScriptLine}
use Rattle.build_script.specs.Inferring.{InfersAll, InfersAs}
use Rattle.build_script.proofs.LinesJoin.{none_inferred, all-join, fault-join}
use Rattle.build_script.proofs.LinesSoFar.{split_at, one_more}
use Rattle.build_script.proofs.inferring.infer_lines.Goals as goal

pub lines-init : goal.lines-init
lines-init g c = record {
  kept_later = omega arith;
  files_later = omega arith;
  kept_tries = λ told. tries-none c.args.retries g.K.Keeper.calls g.K.Keeper.faults c.args.keeper.now;
  file_tries = λ told. tries-none c.args.retries g.T.Tree.calls g.T.Tree.faults c.args.tree.now;
  all = λ told told_tree.
      none_inferred (sides (kept g.K.Keeper.store g.K.Keeper.writes) (filed_in g.T.Tree.files g.T.Tree.changes) c.args.keeper.now c.args.keeper.now c.args.tree.now c.args.tree.now)
      (record { commands = 0; thunks = 0 }) refl refl refl refl;
}

pub returns-in_err-more-clause-exact : goal.returns-in_err-more-clause-exact
returns-in_err-more-clause-exact g c = λ told told_tree.
    let p = err_from_is_err_and c.from_residual.result c.from_residual.ensures.1 in
    let keeps = kept g.K.Keeper.store g.K.Keeper.writes in
    let files = filed_in g.T.Tree.files g.T.Tree.changes in
    let lines = c.args.lines.now in
    let behind = drop (c.lines.line-index + 1) lines in
    rw (p.1, p.2)
    (subst (λ (xs : List ScriptLine). InfersAs xs (sides keeps files c.args.keeper.now c.infer_line.new.keeper c.args.tree.now c.infer_line.new.tree) (Err c.in_err-more.field-0.0))
    (split_at lines c.lines.line-index c.line-item.result c.lines-test.true c.line-item.is)
    (fault-join (take c.lines.line-index lines) (keeps c.args.keeper.now) (keeps c.lines.keeper) (keeps c.infer_line.new.keeper) (files c.args.tree.now) (files c.lines.tree) (files c.infer_line.new.tree)
    c.lines.inferred (c.lines.invariant.all told told_tree) (c.line-item.result ∷ behind) c.in_err-more.field-0.0 (c.in_err-more.ensures.exact told told_tree behind)))

pub lines-preserved : goal.lines-preserved
lines-preserved g c =
    let keeps = kept g.K.Keeper.store g.K.Keeper.writes in
    let files = filed_in g.T.Tree.files g.T.Tree.changes in
    let lines = c.args.lines.now in
    record {
      kept_later = omega (arith, c.infer_line.ensures.kept_later, c.lines.invariant.kept_later);
      files_later = omega (arith, c.infer_line.ensures.files_later, c.lines.invariant.files_later);
      kept_tries = λ told.
          tries-trans c.args.retries g.K.Keeper.calls g.K.Keeper.faults c.args.keeper.now c.lines.keeper c.infer_line.new.keeper 0 (c.lines.invariant.kept_tries told) (c.in_ok-more.ensures.kept_tries told);
      file_tries = λ told.
          tries-trans c.args.retries g.T.Tree.calls g.T.Tree.faults c.args.tree.now c.lines.tree c.infer_line.new.tree 0 (c.lines.invariant.file_tries told) (c.in_ok-more.ensures.file_tries told);
      all = λ told told_tree.
          subst (λ (xs : List ScriptLine). InfersAll xs (sides keeps files c.args.keeper.now c.infer_line.new.keeper c.args.tree.now c.infer_line.new.tree) c.with-inferred.result)
          (one_more lines c.lines.line-index c.line-item.result c.lines-test.true c.line-item.is)
          (all-join (take c.lines.line-index lines) (keeps c.args.keeper.now) (keeps c.lines.keeper) (keeps c.infer_line.new.keeper) (files c.args.tree.now) (files c.lines.tree) (files c.infer_line.new.tree)
          c.lines.inferred (c.lines.invariant.all told told_tree) (c.line-item.result ∷ []) c.in_ok-more.more c.with-inferred.result (c.in_ok-more.ensures.exact told told_tree) c.with-inferred.ensures);
    }
