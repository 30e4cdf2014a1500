use Rattle.file_tree.specs.Files.{filed_in}
use Rattle.build_plan.proofs.CountsAddUp.{fares-keeper}
use Rattle.build_plan.proofs.inputs.source_ref.Goals as goal

pub returns-in-File-clause-goes : goal.returns-in-File-clause-goes
returns-in-File-clause-goes g c kept_told files_told = rw c.in-File.is (c.file_ref.ensures.goes kept_told files_told)

pub returns-in-Made-clause-goes : goal.returns-in-Made-clause-goes
returns-in-Made-clause-goes g c kept_told files_told = rw c.in-Made.is (c.made_ref.ensures.goes kept_told (filed_in g.T.Tree.files g.T.Tree.changes c.args.tree.now))

pub returns-in-Made-clause-fares : goal.returns-in-Made-clause-fares
returns-in-Made-clause-fares g c = fares-keeper _ _ _ _ _ _ _ _ _ _ _ c.made_ref.ensures.fares
