-- A failure with a status fits each job of a book of which nothing is told.
use Rattle.std.proofs.Common.{◌≡◌, ◌≤◌, ℕ, List, Option, Some, None, sym}
use Rattle.std.specs.Prelude.{slice_get, IfSome}
use Rattle.thunk_codec.specs.declared.job.Job.{Job}
use Rattle.thunk_codec.specs.declared.job.Outcome.{Outcome}
use Rattle.thunk_codec.specs.declared.job.Outcome.TheVariants.{Failed}
use Rattle.force_core.specs.Book.{Task, IsOutcome}
use Rattle.book_cases.specs.Untold.{none_told, some_outcome}

failed-fits : (job : Job) (status : ℕ) → 1 ≤ status → status ≤ 204 → IsOutcome none_told some_outcome job (Failed status)
failed-fits job status least most = record { fits = (least, most); told = λ told. absurd told }

at-task : (task : Option Task) (status : ℕ) → 1 ≤ status → status ≤ 204 → IfSome task (λ t. IsOutcome none_told some_outcome t.job (Failed status))
at-task None status least most = tt
at-task (Some t) status least most = failed-fits t.job status least most

-- whatever job a lease has, and whether it has one
pub failure-fits : (tasks : List Task) (id : Option ℕ) (status : ℕ) → 1 ≤ status → status ≤ 204 → IfSome id (λ id. IfSome (slice_get tasks id) (λ t. IsOutcome none_told some_outcome t.job (Failed status)))
failure-fits tasks None status least most = tt
failure-fits tasks (Some id) status least most = at-task (slice_get tasks id) status least most
