use Rattle.std.specs.Prelude.{◌≡◌, length}
use Rattle.worker_link.specs.Sent.{only_job}
use Rattle.worker_link.proofs.sent.only.Given as goal

abbrev pub invariant-jobs : goal.invariant-jobs
invariant-jobs l = only_job l.lease l.rest ≡ only_job l.lease l.sent

abbrev pub decreases-jobs : goal.decreases-jobs
decreases-jobs l = length l.rest
