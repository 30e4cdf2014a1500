use Rattle.std.proofs.Common.{length}
use Rattle.include_scan.proofs.LoopInvariants.{LinesSoFar}
use Rattle.include_scan.proofs.visits.visit_lines.Given as goal

abbrev pub invariant-lines : goal.invariant-lines
invariant-lines g l = LinesSoFar g.T.Tree.tells g.T.Tree.files g.T.Tree.changes g.T.Tree.faults g.T.Tree.calls l.fn.retries l.fn.tree l.tree l.folders l.path l.bytes l.fn.queue l.queue l.number l.rest

abbrev pub decreases-lines : goal.decreases-lines
decreases-lines g l = length l.rest
