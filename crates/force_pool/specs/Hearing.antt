-- How a lease goes on a link.
use Rattle.std.specs.Prelude.{◌≡◌, ◌≢◌, ℕ, List, ◌++◌, ◌∷◌, [], Option, Some, None}
use Rattle.object_name.specs.Causes.{Rose}
use Rattle.thunk_codec.specs.declared.job.Job.{Job}
use Rattle.worker_link.specs.declared.phase.Phase.{Phase}
use Rattle.worker_link.specs.declared.phase.Phase.TheVariants.{Idle, Waiting}
use Rattle.force_pool.specs.declared.heard.Heard.{Heard}
use Rattle.force_pool.specs.declared.heard.Heard.TheVariants.{Answered, Failed, Differs, Memory}
use Rattle.force_pool.specs.Links.{AllTold}

module _ (tells : Job → Type 0) where
  -- what came of listening on a link: the reply on the lease that was sent last, or why none comes
  abbrev pub Hears : List (ℕ × Job) → Phase → ℕ → ℕ → Heard → Type 0
  Hears sent phase before after Answered = phase ≡ Idle
  Hears sent phase before after Failed = Rose before after
  Hears sent phase before after (Differs resolved first second) = (first ≢ second) × (AllTold tells sent → ⊥)
  Hears sent phase before after Memory = Unit {0}

  -- what came of listening once: the reply on another lease, after which the link waits on, or what came of listening
  abbrev pub HearsOnce : List (ℕ × Job) → Phase → ℕ → ℕ → Option Heard → Type 0
  HearsOnce sent phase before after None = phase ≡ Waiting
  HearsOnce sent phase before after (Some heard) = Hears sent phase before after heard

  -- what came of sending a job under a lease and listening
  abbrev pub Runs : ℕ × Job → List (ℕ × Job) → List (ℕ × Job) → Phase → ℕ → ℕ → Heard → Type 0
  Runs job before sent phase old new Answered = (sent ≡ before ++ job ∷ []) × (phase ≡ Idle)
  Runs job before sent phase old new Failed = Rose old new
  Runs job before sent phase old new (Differs resolved first second) = (sent ≡ before ++ job ∷ []) × (first ≢ second) × (AllTold tells sent → ⊥)
  Runs job before sent phase old new Memory = Unit {0}
