-- The plan of a command by its words: gcc by its own model, and any other by that of ar and its like.
use Rattle.std.specs.Prelude.{ℕ, List, [], ◌∷◌, ◌||◌, Bool, bytes_eq, codes, slice_get, unwrap_or, Result, Ok, if◌then◌else◌}
use Rattle.file_tree.specs.Planning.{◌>>=◌}
use Rattle.file_tree.specs.declared.model_fault.PlanFault.{PlanFault}
use Rattle.build_plan.specs.declared.plan.Plan.{Plan}
use Rattle.model_gcc.specs.Plan.{plan_of as gcc_plan_of}
use Rattle.model_gcc.specs.PlanOf.{build_of as gcc_build_of}
use Rattle.model_binutils.specs.Plan.{plan_of as bin_plan_of}
use Rattle.model_binutils.specs.PlanOf.{build_of as bin_build_of}

-- the command's own word, the first; empty where there is none
abbrev pub own_word : List (List ℕ) → List ℕ
own_word [] = []
own_word (word ∷ words) = word

-- the word at a place, or the command's own where the place is behind the last
abbrev pub word_at : List (List ℕ) → ℕ → List ℕ
word_at words place = unwrap_or (slice_get words place) (own_word words)

-- whether a command is gcc
abbrev pub is_gcc : List ℕ → Bool
is_gcc word = bytes_eq word (codes "gcc") || bytes_eq word (codes "cc")

-- the plan of a command of gcc
abbrev pub gcc_command : List (List ℕ) → Result Plan PlanFault
gcc_command words = gcc_plan_of words >>= λ plan. Ok (gcc_build_of plan)

-- the plan of any other command
abbrev pub other_command : List (List ℕ) → Result Plan PlanFault
other_command words = bin_plan_of words >>= λ plan. Ok (bin_build_of plan)

-- the plan of a command's words, of which the first is its own
abbrev pub command_plan : List (List ℕ) → Result Plan PlanFault
command_plan words = if is_gcc (own_word words) then gcc_command words else other_command words
