use Rattle.build_plan.proofs.CountsAddUp.{called-fault, called-ok}
use Rattle.build_plan.proofs.FilesAreChanged.{changed-fault, one-changed}
use Rattle.build_plan.proofs.targets.remove_file.Goals as goal

pub returns-in-Ok-clause-changes : goal.returns-in-Ok-clause-changes
returns-in-Ok-clause-changes g c told = one-changed _ _ _ (c.in-Ok.ensures.made told) (c.in-Ok.ensures.listed told)

pub returns-in-Ok-clause-fares : goal.returns-in-Ok-clause-fares
returns-in-Ok-clause-fares g c = called-ok _ _ _ _ _ _ tt tt _ _ c.in-Ok.ensures.cause c.in-Ok.ensures.tries

pub returns-in-Err-clause-changes : goal.returns-in-Err-clause-changes
returns-in-Err-clause-changes g c told = rw c.tree_fault.ensures (changed-fault (Unit {0}) _ _ _ c.in-Err.trouble (c.in-Err.ensures.kept told) (c.in-Err.ensures.unlisted told))

pub returns-in-Err-clause-fares : goal.returns-in-Err-clause-fares
returns-in-Err-clause-fares g c = rw c.tree_fault.ensures (called-fault _ _ _ _ _ _ c.in-Err.trouble _ _ c.in-Err.ensures.cause c.in-Err.ensures.tries)
