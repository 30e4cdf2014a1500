-- The jobs among which the next lease is looked for, so that not all rows are walked.
use Rattle.std.specs.Prelude.{◌≡◌, ℕ, ◌+◌, ◌≤◌, List, [], ◌∷◌, ◌++◌, length, take, slice_index_or, nat_lt, ◌==◌, if◌then◌else◌}
use Rattle.lease_table.specs.declared.row.Row.{Row}
use Rattle.lease_table.specs.Table.{fresh}

-- some jobs, the mark from which on all jobs count, and for how many jobs there is room
pub record PendingJobs : Type 0 where
  pub jobs : List ℕ
  pub mark : ℕ
  pub room : ℕ

-- the row of a job
abbrev pub row_at : List Row → ℕ → Row
row_at rows job = slice_index_or rows job fresh

-- the jobs without an outcome, where the first row is that of the job of this number
abbrev pub unanswered_from : ℕ → List Row → List ℕ
unanswered_from job [] = []
unanswered_from job (r ∷ rs) = if r.answered then unanswered_from (job + 1) rs else job ∷ unanswered_from (job + 1) rs

-- the jobs are those below the mark that have no outcome, and from the mark on no lease is out
pub record IsPending (p : PendingJobs) (rows : List Row) : Type 0 where
  pub jobs : p.jobs ≡ unanswered_from 0 (take p.mark rows)
  pub unleased : (job : ℕ) → p.mark ≤ job → (row_at rows job).running ≡ 0
  pub within : p.mark ≤ length rows
  pub room : p.room ≡ length rows

-- with room for a job more
abbrev pub roomier : PendingJobs → PendingJobs
roomier p = record { jobs = p.jobs; mark = p.mark; room = p.room + 1 }

-- after a lease of a job: the mark stands past it
abbrev pub passed : PendingJobs → ℕ → PendingJobs
passed p job = if nat_lt job p.mark then p else record { jobs = p.jobs ++ job ∷ []; mark = job + 1; room = p.room }

-- some jobs without this one
abbrev pub without : ℕ → List ℕ → List ℕ
without job [] = []
without job (other ∷ others) = if other == job then others else other ∷ without job others

-- after the outcome of a job
abbrev pub settled : PendingJobs → ℕ → PendingJobs
settled p job = record { jobs = without job p.jobs; mark = p.mark; room = p.room }
