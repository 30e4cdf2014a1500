-- Links that follow a list of actions: what each action makes of a reply.
use Rattle.std.specs.Prelude.{◌≡◌, ◌⊎◌, ℕ, ◌+◌, List, [], ◌∷◌, ◌++◌, Option, Some, None, IfSome, Result, Ok, Err, IsErr}
use Rattle.object_name.specs.declared.trouble.Trouble.{Trouble}
use Rattle.object_name.specs.declared.trouble.Trouble.TheVariants.{Failed, Memory}
use Rattle.thunk_codec.specs.declared.job.Job.{Job}
use Rattle.thunk_codec.specs.declared.job.Outcome.{Outcome}
use Rattle.worker_link.specs.declared.action.Action.{Action}
use Rattle.worker_link.specs.declared.action.Action.TheVariants.{Answer, Lose, Delay, Repeat}
use Rattle.worker_link.specs.Link.{IsReplyAt, IsReply}
use Rattle.worker_link.specs.Queue.{Queued}

-- the actions that were taken, and those that are left
pub record Script : Type 0 where
  pub taken : List Action
  pub left : List Action

-- the next action: behind the list it is to answer
abbrev pub first_action : List Action → Action
first_action [] = Answer
first_action (action ∷ actions) = action

-- the script after its next action
abbrev pub after_action : List Action → List Action → Script
after_action taken [] = record { taken = taken; left = [] }
after_action taken (action ∷ actions) = record { taken = taken ++ action ∷ []; left = actions }

-- how many calls an action fails
abbrev pub loss : Action → ℕ
loss Answer = 0
loss Lose = 1
loss Delay = 1
loss Repeat = 0

-- how many calls some actions fail
abbrev pub losses : List Action → ℕ
losses [] = 0
losses (action ∷ actions) = loss action + losses actions

-- what an action makes of the reply on the job that was run: the answer, and the reply that is held for the next call. Only
-- where a reply is to be repeated may memory be refused
abbrev pub Acts : Action → ℕ × Outcome → Result (ℕ × Outcome) Trouble → Option (ℕ × Outcome) → Type 0
Acts Answer reply answer held = (answer ≡ Ok reply) × (held ≡ None)
Acts Lose reply answer held = (answer ≡ Err Failed) × (held ≡ None)
Acts Delay reply answer held = (answer ≡ Err Failed) × (held ≡ Some reply)
Acts Repeat reply answer held = ((answer ≡ Ok reply) × (held ≡ Some reply)) ⊎ ((answer ≡ Err Memory) × (held ≡ None))

-- how many jobs were run, the script, and the reply that is held
pub record Acting : Type 0 where
  pub ran : ℕ
  pub script : Script
  pub held : Option (ℕ × Outcome)

-- the run of a job gave a reply, and the next action was taken on it
pub record HasActed (tells : Job → Type 0) (outcome : Job → Outcome) (sent : List (ℕ × Job)) (old new : Acting) (answer : Result (ℕ × Outcome) Trouble) : Type 0 where
  pub reply : ℕ × Outcome
  pub is_reply : IsReplyAt tells outcome sent old.ran reply.0 reply.1
  pub acts : Acts (first_action old.script.left) reply answer new.held
  pub next : new.script ≡ after_action old.script.taken old.script.left

-- the run of a job gave no reply, and no action was taken
pub record HasNotRun (old new : Acting) (answer : Result (ℕ × Outcome) Trouble) : Type 0 where
  pub stopped : IsErr answer
  pub script : new.script ≡ old.script
  pub held : new.held ≡ None

-- a call of `receive`: a reply that is held is given, and no action is taken; else the next job is run
abbrev pub Receives : (Job → Type 0) → (Job → Outcome) → List (ℕ × Job) → Acting → Acting → Result (ℕ × Outcome) Trouble → Option (ℕ × Outcome) → Type 0
Receives tells outcome sent old new answer (Some reply) = (answer ≡ Ok reply) × (new ≡ record { ran = old.ran; script = old.script; held = None })
Receives tells outcome sent old new answer None = (new.ran ≡ old.ran + 1) × (HasActed tells outcome sent old new answer ⊎ HasNotRun old new answer)

-- the jobs that a link was sent, and a reply that is to be given later
pub record Replied : Type 0 where
  pub queue : Queued
  pub held : Option (ℕ × Outcome)

-- the reply that is held is one on a job that was sent
abbrev pub IsHeld : (Job → Type 0) → (Job → Outcome) → Replied → Type 0
IsHeld tells outcome r = IfSome r.held (λ reply. IsReply tells outcome r.queue.sent reply.0 reply.1)
