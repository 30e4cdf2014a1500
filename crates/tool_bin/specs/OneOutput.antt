-- Cards with one output: what they read, and the outcome with what they make.
use Rattle.std.specs.Prelude.{ℕ, List, [], ◌∷◌, length, ◌==◌, Option, Some, None, codes}
use Rattle.thunk_codec.specs.declared.job.Job.{Job}
use Rattle.thunk_codec.specs.declared.job.Outcome.{Outcome}
use Rattle.thunk_codec.specs.declared.job.Outcome.TheVariants.{Done, Failed}
use Rattle.thunk_codec.specs.Job.{only_input}
use Rattle.text_lines.specs.Maybe.{◌>>◌, check}

-- the one input of a job with one output: its path is `in`
abbrev pub source_of : Job → Option (List ℕ)
source_of job = do
  check (length job.outputs == 1)
  only_input (codes "in") job.inputs

-- the same where there are no arguments
abbrev pub plain_source_of : Job → Option (List ℕ)
plain_source_of job = do
  check (length job.args == 0)
  source_of job

-- the output that was made, or a status where none was
abbrev pub output_outcome : ℕ → Option (List ℕ) → Outcome
output_outcome status None = Failed status
output_outcome status (Some output) = Done (output ∷ [])

-- what is made of what a job asks for: status 64 where it asks for nothing, and another where nothing is made
abbrev pub made_outcome : {A : Type 0} → ℕ → (A → Option (List ℕ)) → Option A → Outcome
made_outcome status make None = Failed 64
made_outcome status make (Some asked) = output_outcome status (make asked)
