use Rattle.std.proofs.Common.{List, refl, subst, ◌∙◌}
use Rattle.file_tree.specs.Files.{filed_in}
use Rattle.build_script.specs.Building.{BuildsAs}
use Rattle.build_script.specs.ScriptLines.{script_lines}
use Rattle.build_script.specs.WorkAtOnce.{FaresAs}
use Rattle.build_script.specs.declared.lines.ScriptLine.{ScriptLine}
use Rattle.build_script.proofs.CallsCounted.{fares-none}
use Rattle.build_script.proofs.LinesInOrder.{as-memory, line-handed}
use Rattle.build_script.proofs.NothingDone.{nothing_built}
use Rattle.build_script.proofs.building.build_at_once.Goals as goal

pub returns-in_err-script-clause-exact : goal.returns-in_err-script-clause-exact
returns-in_err-script-clause-exact g c told = line-handed (BuildsAs (script_lines c.args.lines.now) _ _) _ _ c.from_residual.ensures (nothing_built (script_lines c.args.lines.now) _ _ refl)

pub returns-in_err-script-clause-later : goal.returns-in_err-script-clause-later
returns-in_err-script-clause-later g c = (line-handed (FaresAs g.T.Tree.tells g.T.Tree.calls g.T.Tree.faults c.args.retries c.args.tree.now c.args.tree.now) _ _ c.from_residual.ensures (as-memory _ _ _ _ _ _ (fares-none _ _ _ _ _))).later

pub returns-in_err-script-clause-cause : goal.returns-in_err-script-clause-cause
returns-in_err-script-clause-cause g c = (line-handed (FaresAs g.T.Tree.tells g.T.Tree.calls g.T.Tree.faults c.args.retries c.args.tree.now c.args.tree.now) _ _ c.from_residual.ensures (as-memory _ _ _ _ _ _ (fares-none _ _ _ _ _))).cause

pub returns-in_err-script-clause-tries : goal.returns-in_err-script-clause-tries
returns-in_err-script-clause-tries g c = (line-handed (FaresAs g.T.Tree.tells g.T.Tree.calls g.T.Tree.faults c.args.retries c.args.tree.now c.args.tree.now) _ _ c.from_residual.ensures (as-memory _ _ _ _ _ _ (fares-none _ _ _ _ _))).tries

pub returns-clause-exact : goal.returns-clause-exact
returns-clause-exact g c told =
    subst (λ (lines : List ScriptLine). BuildsAs lines (filed_in g.T.Tree.files g.T.Tree.changes c.args.tree.now) (filed_in g.T.Tree.files g.T.Tree.changes c.build_lines.new.tree) c.build_lines.result) (c.as_slice.ensures ∙ c.in_ok-script.ensures) (c.build_lines.ensures.exact told)

pub returns-clause-later : goal.returns-clause-later
returns-clause-later g c = c.build_lines.ensures.fares.later

pub returns-clause-cause : goal.returns-clause-cause
returns-clause-cause g c = c.build_lines.ensures.fares.cause

pub returns-clause-tries : goal.returns-clause-tries
returns-clause-tries g c = c.build_lines.ensures.fares.tries
