-- Jobs that were sent, of which the first ones were run.
use Rattle.std.specs.Prelude.{◌≡◌, ℕ, ◌≤◌, List, length}
use Rattle.thunk_codec.specs.declared.job.Job.{Job}
use Rattle.worker_link.specs.declared.phase.Phase.{Phase}
use Rattle.worker_link.specs.declared.phase.Phase.TheVariants.{Waiting}

-- the jobs sent with their leases, how many of them were run, and the phase
pub record Queued : Type 0 where
  pub sent : List (ℕ × Job)
  pub ran : ℕ
  pub phase : Phase

-- no more were run than were sent, and while a reply is awaited one is still to be run
pub record IsQueue (q : Queued) : Type 0 where
  pub within : q.ran ≤ length q.sent
  pub more : q.phase ≡ Waiting → q.ran ≡ length q.sent → ⊥
