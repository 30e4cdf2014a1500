use Rattle.include_scan.proofs.LoopInvariants.{GatheringSoFar}
use Rattle.include_scan.proofs.scanning.gather.Given as goal

abbrev pub invariant-files : goal.invariant-files
invariant-files g l = GatheringSoFar g.T.Tree.tells g.T.Tree.files g.T.Tree.changes g.T.Tree.faults g.T.Tree.calls l.fn.retries l.fn.tree l.tree l.folders l.fn.queue l.queue l.counter
