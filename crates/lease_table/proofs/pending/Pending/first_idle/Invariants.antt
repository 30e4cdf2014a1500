use Rattle.std.proofs.Common.{◌≡◌, ◌<◌, length}
use Rattle.std.specs.List.{AllByRecursion}
use Rattle.lease_table.proofs.Found.{first_of}
use Rattle.lease_table.proofs.pending.Pending.first_idle.Given as goal

abbrev pub invariant-jobs : goal.invariant-jobs
invariant-jobs l = (first_of l.rows l.jobs ≡ first_of l.rows l.initial.jobs) × AllByRecursion (λ job. job < length l.rows) l.jobs

abbrev pub decreases-jobs : goal.decreases-jobs
decreases-jobs l = length l.jobs
