-- The book: what was offered, what came of it, and the history.
use Rattle.std.specs.Prelude.{◌≡◌, ℕ, ◌+◌, ◌*◌, ◌-◌, ◌≤◌, ◌<◌, List, [], ◌∷◌, ◌++◌, length, map, sum_by, slice_get, nat_lt, Bool, true, false, ◌&&◌, not, Option, Some, None, if◌then◌else◌}
use Rattle.std.specs.Option.{option_and_then, is_some}
use Rattle.object_name.specs.Name.{max_size}
use Rattle.thunk_codec.specs.declared.job.Job.{Job}
use Rattle.thunk_codec.specs.declared.job.Outcome.{Outcome}
use Rattle.thunk_codec.specs.Outcome.{Fits}
use Rattle.job_wire.specs.declared.answer.Answer.{Answer}
use Rattle.job_wire.specs.Answer.{answer_of}
use Rattle.job_wire.specs.Frame.{IsJob}
use Rattle.lease_table.specs.declared.row.Row.{Row}
use Rattle.lease_table.specs.Table.{choice}
use Rattle.force_core.specs.declared.event.Event.{Event}
use Rattle.force_core.specs.declared.event.Event.TheVariants as events
use Rattle.force_core.specs.History.{State, start, after, replay}

-- a job that was offered, under its resolved text; its first outcome until it is taken, and that outcome's answer
pub record Task : Type 0 where
  pub text : List ℕ
  pub job : Job
  pub outcome : Option Outcome
  pub answer : Option Answer

-- the jobs that were offered, and for how many more there is room
pub record TaskList : Type 0 where
  pub items : List Task
  pub room : ℕ

-- what a book has
pub record Core : Type 0 where
  pub workers : ℕ
  pub retries : ℕ
  pub copies : ℕ
  pub state : State
  pub history : List Event
  pub tasks : List Task
  pub agains : ℕ

-- an event is entered, with a change of the jobs
abbrev pub entered_with : Core → Event → List Task → Core
entered_with b e tasks = record { workers = b.workers; retries = b.retries; copies = b.copies; state = after b.state e; history = b.history ++ e ∷ []; tasks = tasks; agains = b.agains }

-- an event is entered
abbrev pub entered : Core → Event → Core
entered b e = entered_with b e b.tasks

abbrev pub with_tasks : Core → List Task → Core
with_tasks b tasks = record { workers = b.workers; retries = b.retries; copies = b.copies; state = b.state; history = b.history; tasks = tasks; agains = b.agains }

-- the book is closed
abbrev pub closing : Bool → Core → Core
closing true b = b
closing false b = entered b events.Closed

-- an outcome of a job is kept, with its answer
abbrev pub kept : Outcome → Task → Task
kept o t = record { text = t.text; job = t.job; outcome = Some o; answer = Some (answer_of o) }

-- the outcome of a job is handed out
abbrev pub taken : Task → Task
taken t = record { text = t.text; job = t.job; outcome = None; answer = t.answer }

-- a job that was offered now
abbrev pub offered : List ℕ → Job → Task
offered text job = record { text = text; job = job; outcome = None; answer = None }

-- the outcome of a job that is there to be taken
abbrev pub outcome_at : List Task → ℕ → Option Outcome
outcome_at tasks id = option_and_then (λ t. t.outcome) (slice_get tasks id)

-- the answer of a job
abbrev pub answer_at : List Task → ℕ → Option Answer
answer_at tasks id = option_and_then (λ t. t.answer) (slice_get tasks id)

-- the job that a worker gets next
abbrev pub start_by : Core → Bool → Option ℕ
start_by b false = None
start_by b true = choice b.state.table.copies b.state.table.rows

abbrev pub next_for : Core → ℕ → Option ℕ
next_for b worker = start_by b (not b.state.closed && nat_lt worker b.workers)

-- what is said of an outcome of a job by a function of jobs
pub record IsOutcome (tells : Job → Type 0) (outcome : Job → Outcome) (job : Job) (o : Outcome) : Type 0 where
  pub fits : Fits job o
  pub told : tells job → o ≡ outcome job

-- the job can be sent, and what is kept of its outcome is the function's, where that is told
pub record IsTask (tells : Job → Type 0) (outcome : Job → Outcome) (t : Task) : Type 0 where
  pub outcome_is : (o : Outcome) → t.outcome ≡ Some o → IsOutcome tells outcome t.job o
  pub answer_is : (o : Outcome) → t.outcome ≡ Some o → t.answer ≡ Some (answer_of o)
  pub answer_told : (a : Answer) → t.answer ≡ Some a → tells t.job → a ≡ answer_of (outcome t.job)
  pub text_fits : length t.text ≤ max_size
  pub job_is : IsJob t.job

-- each of some numbers is below a number
abbrev pub AllBelow : ℕ → List ℕ → Type 0
AllBelow n [] = Unit {0}
AllBelow n (x ∷ xs) = (x < n) × AllBelow n xs

-- how many events of a job may still come
abbrev pub row_room : ℕ → Row → ℕ
row_room copies r = (copies - r.running) + (if r.answered then 0 else 1)

-- how many events may still come, but for new jobs: starts, first outcomes, losses and the closing
abbrev pub room : State → ℕ
room s = sum_by (row_room s.table.copies) s.table.rows + 2 * s.table.losses + (if s.closed then 0 else 1)

-- what a book keeps: its state is the replay of its history, and its jobs are those of the table
pub record IsBook (b : Core) : Type 0 where
  pub replayed : replay b.workers (start b.workers b.retries b.copies) b.history ≡ Some b.state
  pub rows : map (λ r. r.answered) b.state.table.rows ≡ map (λ t. is_some t.answer) b.tasks
  pub leases : AllBelow (length b.state.table.rows) (map (λ l. l.job) b.state.table.leases)
  pub copies : 1 ≤ b.state.table.copies
  pub copies_are : b.state.table.copies ≡ b.copies
