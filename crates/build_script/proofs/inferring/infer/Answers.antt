use Rattle.std.proofs.Common.{List, refl, subst, ◌∙◌}
use Rattle.std.proofs.lemmas.Result.{err_from_is_err_and}
use Rattle.blob_store.specs.Keeping.{kept}
use Rattle.file_tree.specs.Files.{filed_in}
use Rattle.build_plan.specs.Applying.{sides}
use Rattle.build_script.specs.declared.lines.ScriptLine.{ScriptLine}
use Rattle.build_script.specs.Inferring.{InfersAs}
use Rattle.build_script.specs.ScriptLines.{script_lines}
use Rattle.build_script.proofs.NothingDone.{nothing_inferred}
use Rattle.build_script.proofs.inferring.infer.Goals as goal

pub returns-in_err-script-clause-exact : goal.returns-in_err-script-clause-exact
returns-in_err-script-clause-exact g c = λ told told_tree.
    let p = err_from_is_err_and c.from_residual.result c.from_residual.ensures.1 in
    rw (p.1, p.2) (nothing_inferred (script_lines c.args.lines.now)
    (sides (kept g.K.Keeper.store g.K.Keeper.writes) (filed_in g.T.Tree.files g.T.Tree.changes) c.args.keeper.now c.args.keeper.now c.args.tree.now c.args.tree.now) refl refl)

pub returns-clause-exact : goal.returns-clause-exact
returns-clause-exact g c = λ told told_tree.
    subst (λ (xs : List ScriptLine). InfersAs xs
    (sides (kept g.K.Keeper.store g.K.Keeper.writes) (filed_in g.T.Tree.files g.T.Tree.changes) c.args.keeper.now c.infer_lines.new.keeper c.args.tree.now c.infer_lines.new.tree) c.infer_lines.result)
    (c.as_slice.ensures ∙ c.in_ok-script.ensures) (c.infer_lines.ensures.exact told told_tree)
