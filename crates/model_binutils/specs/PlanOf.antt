-- What a command does, as a plan of steps.
use Rattle.std.specs.Prelude.{◌≡◌, ℕ, suc, List, [], ◌∷◌, map, codes, unwrap_or, Bool, true, false, Option, Some, None, Ok}
use Rattle.thunk_codec.specs.Folder.{last_of}
use Rattle.build_plan.specs.declared.plan.Plan.{Plan}
use Rattle.build_plan.specs.declared.plan.Source.{Source}
use Rattle.build_plan.specs.declared.plan.Source.TheVariants as sources
use Rattle.build_plan.specs.declared.plan.Stage.{Stage}
use Rattle.build_plan.specs.declared.plan.Step.{Step}
use Rattle.build_plan.specs.declared.plan.Step.TheVariants.{Take, Run}
use Rattle.build_plan.specs.declared.plan.Target.{Target}
use Rattle.build_plan.specs.declared.plan.Target.TheVariants.{Keep, Drop}
use Rattle.build_plan.specs.Numbered.{four_digits}
use Rattle.model_binutils.specs.declared.bin_plan.BinPlan.{BinPlan}
use Rattle.model_binutils.specs.declared.bin_plan.BinPlan.TheVariants.{Ar, Ranlib, Strip, Copy, Move, Remove, Nothing}
use Rattle.model_binutils.specs.Plan.{plan_of}

-- some words have this plan
abbrev pub IsPlanned : BinPlan → Type 0
IsPlanned plan = (words : List (List ℕ)) × (plan_of words ≡ Ok plan)

-- a tool over one file, as the input of this name
abbrev pub run_over : List ℕ → List (List ℕ) → List ℕ → List ℕ → List ℕ → Step
run_over tool args input path target =
    Run (record { tool = tool; args = args; inputs = (input, sources.File path) ∷ []; optional = None; target = target })

-- one step, whose item a file gets
abbrev pub one_kept : Step → List ℕ → Plan
one_kept step path = record { steps = step ∷ []; targets = Keep path 0 ∷ [] }

-- ---- ar and ranlib

-- the input of the member of a number: `m0000`, `m0001` and so on
abbrev pub member_input : ℕ → List ℕ
member_input number = 109 ∷ four_digits number

-- members as inputs, of which the first has this number
abbrev pub member_inputs : ℕ → List (List ℕ) → List (List ℕ × Source)
member_inputs number [] = []
member_inputs number (path ∷ paths) = (member_input number, sources.File path) ∷ member_inputs (suc number) paths

-- the letters that `ar` is given where members are put in
abbrev pub insertion_letters : Bool → List ℕ
insertion_letters true = codes "rs"
insertion_letters false = codes "r"

-- `ar` puts members in by the last components of their paths; the archive as it was is an input, if it is there
abbrev pub insertion : Bool → List ℕ → List (List ℕ) → Stage
insertion table archive members = record {
  tool = codes "ar";
  args = insertion_letters table ∷ map last_of members;
  inputs = member_inputs 0 members;
  optional = Some (codes "old", archive);
  target = archive;
}

-- members are put in, or the archive gets a table of symbols
abbrev pub archive_step : Bool → Bool → List ℕ → List (List ℕ) → Step
archive_step true table archive members = Run (insertion table archive members)
archive_step false table archive members = run_over (codes "ar") (codes "s" ∷ []) (codes "old") archive archive

-- ---- strip

-- where a stripped file goes: to the one that is given, or in its own place
abbrev pub stripped_path : Option (List ℕ) → List ℕ → List ℕ
stripped_path output path = unwrap_or output path

abbrev pub strip_step : Option (List ℕ) → List ℕ → Step
strip_step output path = run_over (codes "strip") [] (codes "in") path (stripped_path output path)

-- each stripped file goes where it belongs, from the step of a number on
abbrev pub strip_targets : Option (List ℕ) → ℕ → List (List ℕ) → List Target
strip_targets output number [] = []
strip_targets output number (path ∷ paths) = Keep (stripped_path output path) number ∷ strip_targets output (suc number) paths

-- ---- all of them

-- an equation for each plan
abbrev pub build_of : BinPlan → Plan
build_of (Ar replace table archive members) = one_kept (archive_step replace table archive members) archive
build_of (Ranlib archive) = one_kept (run_over (codes "ranlib") [] (codes "old") archive archive) archive
build_of (Strip output files) = record { steps = map (strip_step output) files; targets = strip_targets output 0 files }
build_of (Copy from to) = one_kept (Take from) to
build_of (Move from to) = record { steps = Take from ∷ []; targets = Keep to 0 ∷ Drop from ∷ [] }
build_of (Remove paths) = record { steps = []; targets = map Drop paths }
build_of Nothing = record { steps = []; targets = [] }
