-- What a worker says of its link and of its own numbers.
use Rattle.std.specs.Prelude.{◌≡◌, ◌≢◌, ◌≤◌, ◌<◌, ◌+◌, ◌-◌, ℕ, List, ◌++◌, length, min, Bool, true, false}
use Rattle.object_name.specs.Causes.{RoseBy}
use Rattle.thunk_codec.specs.declared.job.Job.{Job}
use Rattle.force_pool.specs.declared.worker_end.WorkerEnd.{WorkerEnd}
use Rattle.force_pool.specs.declared.worker_end.WorkerEnd.TheVariants.{Going, GaveUp, Differs, Memory}
use Rattle.force_pool.specs.Links.{AllTold, last_count}

-- what was sent on a link, the link's count of faults, and the worker's own numbers: how many leases it was given, first outcomes
-- and losses it entered, and failed calls it counted; and how it ended
pub record Account : Type 0 where
  pub sent : List (ℕ × Job)
  pub faults : ℕ
  pub retries : ℕ
  pub starts : ℕ
  pub replies : ℕ
  pub losses : ℕ
  pub failures : ℕ
  pub ended : WorkerEnd

abbrev pub is_going : WorkerEnd → Bool
is_going Going = true
is_going GaveUp = false
is_going (Differs resolved first second) = false
is_going Memory = false

abbrev pub is_given_up : WorkerEnd → Bool
is_given_up Going = false
is_given_up GaveUp = true
is_given_up (Differs resolved first second) = false
is_given_up Memory = false

abbrev pub is_memory : WorkerEnd → Bool
is_memory Going = false
is_memory GaveUp = false
is_memory (Differs resolved first second) = false
is_memory Memory = true

module _ (tells : Job → Type 0) where
  -- a worker's two answers differ, and not all jobs that were sent on its link are told
  abbrev pub ShowsUntold : List (ℕ × Job) → WorkerEnd → Type 0
  ShowsUntold sent Going = Unit {0}
  ShowsUntold sent GaveUp = Unit {0}
  ShowsUntold sent (Differs resolved first second) = (first ≢ second) × (AllTold tells sent → ⊥)
  ShowsUntold sent Memory = Unit {0}

  -- a worker's numbers and its end fit its link, over the link that it was given
  pub record Gives (retries : ℕ) (given : List (ℕ × Job)) (faults : ℕ) (a : Account) : Type 0 where
    pub tries : a.retries ≡ retries
    pub more : List (ℕ × Job)
    pub prefix : a.sent ≡ given ++ more
    pub later : faults ≤ a.faults
    pub sent : length a.sent ≤ length given + a.starts
    pub starts : is_memory a.ended ≡ false → a.faults < last_count → a.starts + length given + faults ≤ length a.sent + a.faults
    pub losses : is_memory a.ended ≡ false → a.faults < last_count → a.losses + faults ≤ a.faults
    pub failures : min (faults + a.failures) last_count ≤ a.faults
    pub gave_up : is_given_up a.ended ≡ true → RoseBy retries faults a.faults
    pub differs : ShowsUntold a.sent a.ended

  -- a step of a worker that can go on
  pub record Advances (a b : Account) : Type 0 where
    pub going : is_going a.ended ≡ true
    pub tries : b.retries ≡ a.retries
    pub more : List (ℕ × Job)
    pub prefix : b.sent ≡ a.sent ++ more
    pub later : a.faults ≤ b.faults
    pub sent : length more + a.starts ≤ b.starts
    pub starts : is_memory b.ended ≡ false → b.faults < last_count → b.starts + a.faults ≤ a.starts + length more + b.faults
    pub losses : is_memory b.ended ≡ false → b.faults < last_count → b.losses + a.faults ≤ a.losses + b.faults
    pub rise : ℕ
    pub failures : b.failures ≡ a.failures + rise
    pub failed : min (a.faults + rise) last_count ≤ b.faults
    pub gave_up : is_given_up b.ended ≡ true → min (a.faults + (a.retries - a.failures) + 1) last_count ≤ b.faults
    pub differs : ShowsUntold b.sent b.ended

  -- whatever link a worker was given, it goes on to fit it
  abbrev pub Goes : Account → Account → Type 0
  Goes a b = (retries : ℕ) (given : List (ℕ × Job)) (faults : ℕ) → Gives retries given faults a → Gives retries given faults b
