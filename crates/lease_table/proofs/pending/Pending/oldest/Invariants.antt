use Rattle.std.proofs.Common.{◌≡◌, ◌<◌, length, None}
use Rattle.std.specs.List.{AllByRecursion}
use Rattle.lease_table.proofs.Found.{best_of}
use Rattle.lease_table.proofs.pending.Pending.oldest.Given as goal

abbrev pub invariant-jobs : goal.invariant-jobs
invariant-jobs l = (best_of l.rows l.copies l.best l.jobs ≡ best_of l.rows l.copies None l.initial.jobs) × AllByRecursion (λ job. job < length l.rows) l.jobs

abbrev pub decreases-jobs : goal.decreases-jobs
decreases-jobs l = length l.jobs
