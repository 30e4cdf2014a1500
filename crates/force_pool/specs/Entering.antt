-- What comes of a reply that is entered into the book.
use Rattle.std.specs.Prelude.{◌≡◌, ◌≢◌, ℕ, Option, Some, slice_get, IfSome}
use Rattle.thunk_codec.specs.declared.job.Job.{Job}
use Rattle.lease_table.specs.Table.{job_of}
use Rattle.job_wire.specs.declared.answer.Answer.{Answer}
use Rattle.force_core.specs.Book.{Core}
use Rattle.force_pool.specs.declared.entered.Entered.{Entered}
use Rattle.force_pool.specs.declared.entered.Entered.TheVariants.{Done, Differs, Memory}

-- two answers differ only where something isn't told
abbrev pub DiffersUnlessTold : Type 0 → Entered → Type 0
DiffersUnlessTold Told Done = Unit {0}
DiffersUnlessTold Told (Differs resolved first second) = (first ≢ second) × (Told → ⊥)
DiffersUnlessTold Told Memory = Unit {0}

-- the lease is of the job of this number, and that is this job
pub record IsLeaseOf (book : Core) (lease id : ℕ) (job : Job) : Type 0 where
  pub leased : job_of book.state.table lease ≡ Some id
  pub is : IfSome (slice_get book.tasks id) (λ task. task.job ≡ job)

-- the answer that is known, and another
abbrev pub TellsApart : Option Answer → Answer → Entered → Type 0
TellsApart known second Done = ⊥
TellsApart known second (Differs resolved first other) = (known ≡ Some first) × (other ≡ second)
TellsApart known second Memory = Unit {0}
