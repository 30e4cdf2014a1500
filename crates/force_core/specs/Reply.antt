-- What an outcome is for a job.
use Rattle.std.specs.Prelude.{◌≡◌, ◌≢◌, ℕ, ◌+◌, ◌-◌, ◌^◌, min, List, slice_get, slice_set, Some, None}
use Rattle.thunk_codec.specs.declared.job.Outcome.{Outcome}
use Rattle.job_wire.specs.declared.answer.Answer.{Answer}
use Rattle.job_wire.specs.Answer.{answer_of}
use Rattle.force_core.specs.declared.reply.Reply.{Reply}
use Rattle.force_core.specs.declared.reply.Reply.TheVariants.{First, Again, Differs, Stray}
use Rattle.force_core.specs.Book.{Core, Task, kept, entered_with}
use Rattle.force_core.specs.declared.event.Event.TheVariants as events
use Rattle.lease_table.specs.Table.{job_of}

-- what comes of an outcome of a job, by the answer: the first is kept, and nothing else is
abbrev pub Replied : Task → Task → Outcome → Reply → Type 0
Replied before after o First = (before.answer ≡ None) × (after ≡ kept o before)
Replied before after o Again = (before.answer ≡ Some (answer_of o)) × (after ≡ before)
Replied before after o (Differs second) = (first : Answer) × (before.answer ≡ Some first) × (first ≢ answer_of o) × (second ≡ answer_of o) × (after ≡ before)
Replied before after o Stray = ⊥

-- the answers of a job do not differ
abbrev pub Agrees : Reply → Type 0
Agrees First = Unit {0}
Agrees Again = Unit {0}
Agrees (Differs second) = ⊥
Agrees Stray = Unit {0}

-- the same for a job of a list
pub record RepliedAt (before after : List Task) (id : ℕ) (o : Outcome) (reply : Reply) : Type 0 where
  pub task : Task
  pub next : Task
  pub found : slice_get before id ≡ Some task
  pub set : after ≡ slice_set before id next
  pub replied : Replied task next o reply

-- an equal answer came again
abbrev pub again : Core → Core
again b = record { workers = b.workers; retries = b.retries; copies = b.copies; state = b.state; history = b.history; tasks = b.tasks; agains = min (b.agains + 1) (2 ^ 64 - 1) }

-- the lease was given out, for this job
pub record IsLeased (b : Core) (lease id : ℕ) (t : Task) : Type 0 where
  pub leased : job_of b.state.table lease ≡ Some id
  pub found : slice_get b.tasks id ≡ Some t

-- what comes of an outcome on a lease, by the answer
abbrev pub Replies : Core → Core → ℕ → Outcome → Reply → Type 0
Replies before after lease o First = (id : ℕ) × (t : Task) × IsLeased before lease id t × (t.answer ≡ None) × (after ≡ entered_with before (events.First lease) (slice_set before.tasks id (kept o t)))
Replies before after lease o Again = (id : ℕ) × (t : Task) × IsLeased before lease id t × (t.answer ≡ Some (answer_of o)) × (after ≡ again before)
Replies before after lease o (Differs second) = (id : ℕ) × (t : Task) × (first : Answer) × IsLeased before lease id t × (t.answer ≡ Some first) × (first ≢ answer_of o) × (second ≡ answer_of o) × (after ≡ before)
Replies before after lease o Stray = (job_of before.state.table lease ≡ None) × (after ≡ before)
