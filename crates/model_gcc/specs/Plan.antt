-- What a command line of gcc asks for, or the first refusal of a word.
use Rattle.std.specs.Prelude.{ℕ, List, not, is_some, unwrap_or, Result, Ok}
use Rattle.file_tree.specs.declared.model_fault.Reason.TheVariants.{NoValue, OneFile, NoInput, NeedsOutput, WrongKind, TooMany}
use Rattle.file_tree.specs.declared.model_fault.PlanFault.{PlanFault}
use Rattle.model_gcc.specs.declared.gcc_plan.Stop.{Stop}
use Rattle.model_gcc.specs.declared.gcc_plan.Stop.TheVariants.{Link}
use Rattle.model_gcc.specs.declared.gcc_plan.GccPlan.{GccPlan}
use Rattle.model_gcc.specs.declared.slots.Slots.{Slots}
use Rattle.file_tree.specs.Planning.{◌>>=◌, ◌>>◌, refuse_if, refuse_at}
use Rattle.model_gcc.specs.Values.{after_first}
use Rattle.model_gcc.specs.Slots.{no_words, with_words}
use Rattle.model_gcc.specs.Checks.{has_file, needs_output, shared_output, first_unfit, is_within}

-- the stop that is given, or a link
abbrev pub stop_of : Slots → Stop
stop_of given = unwrap_or given.stop Link

-- what is given, as a plan
abbrev pub plan_with : Slots → GccPlan
plan_with given = record {
  stop = stop_of given;
  output = given.output;
  cpp_words = given.cpp_words;
  cc_words = given.cc_words;
  include_folders = given.include_folders;
  lib_folders = given.lib_folders;
  operands = given.operands;
}

-- the plan of all words, of which this is given, where nothing is refused at their end: an option without a value, at its own place;
-- no file; `-E` without `-o`; one `-o` for several files, at its place; a file that the stages have no work for, at its place; too
-- many operands or bytes
unfoldable pub planned : List (List ℕ) → Slots → Result GccPlan PlanFault
planned words given = do
  refuse_if (is_some given.waiting) given.at NoValue
  refuse_if (not (has_file given.operands)) 0 NoInput
  refuse_if (needs_output (stop_of given) given.output) 0 NeedsOutput
  refuse_at (shared_output given) OneFile
  refuse_at (first_unfit (stop_of given) given.operands given.places) WrongKind
  refuse_if (not (is_within words given.operands)) 0 TooMany
  Ok (plan_with given)

-- the plan of a command's words, of which the first is its own
abbrev pub plan_of : List (List ℕ) → Result GccPlan PlanFault
plan_of words = with_words (after_first words) no_words >>= λ given. planned words given
