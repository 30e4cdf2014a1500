use Rattle.build_script.proofs.LinesInOrder.{IsBuilding}
use Rattle.build_script.proofs.building.build_lines.Given as goal

abbrev pub invariant-lines : goal.invariant-lines
invariant-lines g l = IsBuilding g.T.Tree.tells g.T.Tree.files g.T.Tree.changes g.T.Tree.calls g.T.Tree.faults l.retries l.lines l.initial.tree l.tree l.line-index l.commands
