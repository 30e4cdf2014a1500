use Rattle.std.specs.Prelude.{◌≡◌, length}
use Rattle.worker_link.specs.Sent.{has_lease}
use Rattle.worker_link.proofs.sent.has_lease.Given as goal

abbrev pub invariant-jobs : goal.invariant-jobs
invariant-jobs l = has_lease l.lease l.rest ≡ has_lease l.lease l.sent

abbrev pub decreases-jobs : goal.decreases-jobs
decreases-jobs l = length l.rest
