-- The card `add`: the sum of two numbers.
use Rattle.std.specs.Prelude.{ℕ, List, [], ◌∷◌, ◌+◌, ◌^◌, ◌==◌, ◌&&◌, nat_lt, length, codes, bytes_eq, Option, Some, None, if◌then◌else◌}
use Rattle.thunk_codec.specs.declared.job.Job.{Job}
use Rattle.thunk_codec.specs.declared.job.Outcome.{Outcome}
use Rattle.thunk_codec.specs.declared.job.Outcome.TheVariants.{Done, Failed}
use Rattle.tool_text.specs.Numbers.{number_line, number_in}

-- the sum of what two files hold: status 65 where one holds no number, 66 where the sum is 2 ^ 64 or more
abbrev pub sum_outcome : Option ℕ → Option ℕ → Outcome
sum_outcome None b = Failed 65
sum_outcome (Some a) None = Failed 65
sum_outcome (Some a) (Some b) = if nat_lt (a + b) (2 ^ 64) then Done (number_line (a + b) ∷ []) else Failed 66

-- the inputs are `a` and `b`, else status 64
abbrev pub inputs_outcome : List (List ℕ × List ℕ) → Outcome
inputs_outcome [] = Failed 64
inputs_outcome (a ∷ []) = Failed 64
inputs_outcome (a ∷ b ∷ []) =
    if bytes_eq a.0 (codes "a") && bytes_eq b.0 (codes "b") then sum_outcome (number_in a.1) (number_in b.1) else Failed 64
inputs_outcome (a ∷ b ∷ c ∷ others) = Failed 64

-- no arguments and one output, else status 64
abbrev pub add_outcome : Job → Outcome
add_outcome job = if (length job.args == 0) && (length job.outputs == 1) then inputs_outcome job.inputs else Failed 64
