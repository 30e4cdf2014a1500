-- Links: what a send leaves, and which replies come back.
use Rattle.std.specs.Prelude.{◌≡◌, ◌⊎◌, ℕ, List, [], ◌∷◌, ◌++◌, slice_get, Some, if◌then◌else◌}
use Rattle.thunk_codec.specs.declared.job.Job.{Job}
use Rattle.thunk_codec.specs.declared.job.Outcome.{Outcome}
use Rattle.thunk_codec.specs.Outcome.{Fits}
use Rattle.worker_link.specs.declared.phase.Phase.{Phase}
use Rattle.worker_link.specs.declared.phase.Phase.TheVariants.{Idle, Waiting}
use Rattle.worker_link.specs.Sent.{is_latest}

-- the phase after a reply: idle where it is on the lease that was sent last
abbrev pub after_reply : List (ℕ × Job) → ℕ → Phase
after_reply sent lease = if is_latest sent lease then Idle else Waiting

-- a failed send leaves the jobs sent as they were, or with this one
abbrev pub MaySend : List (ℕ × Job) → ℕ × Job → List (ℕ × Job) → Type 0
MaySend before job after = (after ≡ before) ⊎ (after ≡ before ++ job ∷ [])

-- the outcome is one of the job that was sent at this place under this lease: it fits, and where the job is told, it is its
-- function's outcome
pub record IsReplyAt (tells : Job → Type 0) (outcome : Job → Outcome) (sent : List (ℕ × Job)) (place lease : ℕ) (given : Outcome) : Type 0 where
  pub job : Job
  pub was_sent : slice_get sent place ≡ Some (lease, job)
  pub fits : Fits job given
  pub told : tells job → given ≡ outcome job

-- the outcome is one of a job that was sent under this lease
pub record IsReply (tells : Job → Type 0) (outcome : Job → Outcome) (sent : List (ℕ × Job)) (lease : ℕ) (given : Outcome) : Type 0 where
  pub place : ℕ
  pub at : IsReplyAt tells outcome sent place lease given
