-- The card `fail`: the status that its argument says.
use Rattle.std.specs.Prelude.{ℕ, List, [], ◌∷◌, ◌==◌, ◌&&◌, nat_le, length, Option, Some, None, unwrap_or}
use Rattle.object_name.specs.Number.{number_of}
use Rattle.thunk_codec.specs.declared.job.Job.{Job}
use Rattle.thunk_codec.specs.declared.job.Outcome.{Outcome}
use Rattle.thunk_codec.specs.declared.job.Outcome.TheVariants.{Failed}
use Rattle.text_lines.specs.Maybe.{◌>>=◌, ◌>>◌, check}

-- the status that a text says, a canonical decimal number of 1 to 200
abbrev pub status_in : List ℕ → Option ℕ
status_in text = do
  n ← number_of text
  check (nat_le 1 n && nat_le n 200)
  Some n

-- the status that the arguments say: there is one argument
abbrev pub status_of : List (List ℕ) → Option ℕ
status_of [] = None
status_of (arg ∷ []) = status_in arg
status_of (arg ∷ other ∷ others) = None

-- one argument of this form and one output, else status 64
abbrev pub fail_outcome : Job → Outcome
fail_outcome job = Failed (unwrap_or (do check (length job.outputs == 1); status_of job.args) 64)
