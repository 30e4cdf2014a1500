use Rattle.std.proofs.Common.{length}
use Rattle.include_scan.proofs.LoopInvariants.{LookingSoFar}
use Rattle.include_scan.proofs.found.find.Given as goal

abbrev pub invariant-candidates : goal.invariant-candidates
invariant-candidates g l = LookingSoFar g.T.Tree.tells g.T.Tree.files g.T.Tree.changes g.T.Tree.faults g.T.Tree.calls l.retries l.initial.tree l.tree l.visited.keys l.candidates l.rest

abbrev pub decreases-candidates : goal.decreases-candidates
decreases-candidates g l = length l.rest
