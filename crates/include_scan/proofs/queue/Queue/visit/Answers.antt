use Rattle.std.proofs.Common.{subst}
use Rattle.include_scan.specs.Queue.{IsFound}
use Rattle.include_scan.proofs.QueueKeepsWaiting.{found_before}
use Rattle.include_scan.proofs.queue.Queue.visit.Goals as goal

pub returns-in-Visited-clause-exact : goal.returns-in-Visited-clause-exact
returns-in-Visited-clause-exact c files index wanted waits found =
    (found_before files c.args.self.now.visited.keys wanted (subst (IsFound files c.args.self.now.visited.keys wanted) c.in-Visited.is found), waits)
