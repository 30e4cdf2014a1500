-- What the steps of plans of commands are: a step that scans is of the preprocessor.
use Rattle.std.proofs.Common.{◌≡◌, ℕ, ◌+◌, true, false, List, [], ◌∷◌, map, Bool, Option, Some, None, Result, Ok, Err, refl, sym, subst}
use Rattle.std.specs.Prelude.{if◌then◌else◌}
use Rattle.std.specs.List.{AllByRecursion}
use Rattle.thunk_codec.specs.Path.{is_path}
use Rattle.file_tree.specs.Planning as planning
use Rattle.file_tree.specs.declared.model_fault.PlanFault.{PlanFault}
use Rattle.file_tree.specs.declared.model_fault.PlanFault.TheVariants.{Refused, Memory}
use Rattle.include_scan.specs.Scanned.{IsOver}
use Rattle.build_plan.specs.declared.plan.Plan.{Plan}
use Rattle.build_plan.specs.declared.plan.Scanning.{Scanning}
use Rattle.build_plan.specs.declared.plan.Source.{Source as Input}
use Rattle.build_plan.specs.declared.plan.Source.TheVariants.{File, Made}
use Rattle.build_plan.specs.declared.plan.Stage.{Stage}
use Rattle.build_plan.specs.declared.plan.Step.{Step}
use Rattle.build_plan.specs.declared.plan.Step.TheVariants.{Read, Find, Run, Scan}
use Rattle.model_gcc.specs.declared.gcc_plan.GccPlan.{GccPlan}
use Rattle.model_gcc.specs.declared.gcc_plan.Operand.{Operand}
use Rattle.model_gcc.specs.declared.gcc_plan.Operand.TheVariants.{Source, Preprocessed, Assembly, AssemblySource, Other, Library}
use Rattle.model_gcc.specs.declared.gcc_plan.Stop.{Stop}
use Rattle.model_gcc.specs.declared.gcc_plan.Stop.TheVariants.{Preprocess, Compile, Assemble, Link}
use Rattle.model_gcc.specs.Libraries.{library_file, library_places}
use Rattle.model_gcc.specs.Operands.{IsOperand}
use Rattle.model_gcc.specs.Plan as gcc
use Rattle.model_gcc.specs.PlanOf as gcc_plan
use Rattle.model_gcc.specs.Stages.{preprocess, assembling, compiling, linking, steps_of}
use Rattle.model_gcc.proofs.PublicLaws.{plan_small, scans_are_over, all_steps}
use Rattle.model_binutils.specs.declared.bin_plan.BinPlan.{BinPlan}
use Rattle.model_binutils.specs.declared.bin_plan.BinPlan.TheVariants as bin
use Rattle.model_binutils.specs.Plan as binutils
use Rattle.model_binutils.specs.PlanOf.{strip_step}
use Rattle.model_binutils.specs.PlanOf as binutils_plan
use Rattle.build_script.specs.Commands.{command_plan, gcc_command, other_command, is_gcc, own_word}
use Rattle.build_script.specs.LineCommand.{Halt, line_command, planned_command, worded_command}
use Rattle.build_script.specs.LineWords.{words_of}
use Rattle.build_script.specs.WholeTree.{IsCpp, ScansForCpp}
use Rattle.build_script.specs.declared.line_command.LineCommand.{LineCommand}
use Rattle.build_script.specs.declared.lines.ScriptLine.{ScriptLine}

-- ---- gcc

-- what holds of each read, found and made item, and of scans by the preprocessor, holds of all steps of a plan of gcc
module _ (P : Step → Type 0) (reads : (path : List ℕ) → P (Read path)) (finds : (missing : List ℕ) (places : List (List ℕ)) → P (Find missing places))
    (runs : (stage : Stage) → P (Run stage)) (scans : (scanning : Scanning) → IsCpp scanning → P (Scan scanning)) where
  module _ (plan : GccPlan) (over : (source : List ℕ) → IsOver plan.include_folders source (source ∷ plan.cpp_words)) (target : List ℕ) where
    preprocess-each : (path : List ℕ) → is_path path ≡ true → P (preprocess plan target path)
    preprocess-each path h = scans _ (record { tool = refl; source = h; over = over path })

    assembling-each : (stop : Stop) (input : Input) → AllByRecursion P (assembling plan target stop input)
    assembling-each Preprocess input = tt
    assembling-each Compile input = tt
    assembling-each Assemble input = (runs _, tt)
    assembling-each Link input = (runs _, tt)

    compiling-each : (stop : Stop) (number : ℕ) (input : Input) → AllByRecursion P (compiling plan target stop number input)
    compiling-each Preprocess number input = tt
    compiling-each Compile number input = (runs _, tt)
    compiling-each Assemble number input = (runs _, (runs _, tt))
    compiling-each Link number input = (runs _, (runs _, tt))

    linking-each : (stop : Stop) (step : Step) → P step → AllByRecursion P (linking plan target stop step)
    linking-each Preprocess step h = tt
    linking-each Compile step h = tt
    linking-each Assemble step h = tt
    linking-each Link step h = (h, tt)

    steps-each : (number : ℕ) (operand : Operand) → IsOperand operand → AllByRecursion P (steps_of plan target number operand)
    steps-each number (Source path) h = (preprocess-each path h, compiling-each plan.stop (number + 1) (Made number))
    steps-each number (AssemblySource path) h = (preprocess-each path h, assembling-each plan.stop (Made number))
    steps-each number (Preprocessed path) h = compiling-each plan.stop number (File path)
    steps-each number (Assembly path) h = assembling-each plan.stop (File path)
    steps-each number (Other path) h = linking-each plan.stop (Read path) (reads path)
    steps-each number (Library name) h = linking-each plan.stop (Find (library_file name) (library_places plan.lib_folders name)) (finds _ _)

  pub gcc-steps : (words : List (List ℕ)) (plan : GccPlan) → gcc.plan_of words ≡ Ok plan → AllByRecursion P (gcc_plan.build_of plan).steps
  gcc-steps words plan is = all_steps P plan (steps-each plan (scans_are_over words plan is)) (λ args inputs target. runs _) (plan_small words plan is).operands

-- ---- ar, ranlib, strip, cp, mv and rm

strips-scan : (output : Option (List ℕ)) (files : List (List ℕ)) → AllByRecursion ScansForCpp (map (strip_step output) files)
strips-scan output [] = tt
strips-scan output (path ∷ files) = (tt, strips-scan output files)

binutils-scan : (plan : BinPlan) → AllByRecursion ScansForCpp (binutils_plan.build_of plan).steps
binutils-scan (bin.Ar true table archive members) = (tt, tt)
binutils-scan (bin.Ar false table archive members) = (tt, tt)
binutils-scan (bin.Ranlib archive) = (tt, tt)
binutils-scan (bin.Strip output files) = strips-scan output files
binutils-scan (bin.Copy from to) = (tt, tt)
binutils-scan (bin.Move from to) = (tt, tt)
binutils-scan (bin.Remove paths) = tt
binutils-scan bin.Nothing = tt

-- ---- commands of lines

-- the steps of what was found scan for the preprocessor
abbrev Scans : Result Plan PlanFault → Type 0
Scans (Ok plan) = AllByRecursion ScansForCpp plan.steps
Scans (Err fault) = Unit {0}

gcc-scans : (words : List (List ℕ)) (found : Result GccPlan PlanFault) → gcc.plan_of words ≡ found → Scans (planning.◌>>=◌ found (λ plan. Ok (gcc_plan.build_of plan)))
gcc-scans words (Ok plan) is = gcc-steps ScansForCpp (λ path. tt) (λ missing places. tt) (λ stage. tt) (λ scanning cpp. cpp) words plan is
gcc-scans words (Err fault) is = tt

other-scans : (found : Result BinPlan PlanFault) → Scans (planning.◌>>=◌ found (λ plan. Ok (binutils_plan.build_of plan)))
other-scans (Ok plan) = binutils-scan plan
other-scans (Err fault) = tt

command-scans : (words : List (List ℕ)) (test : Bool) → is_gcc (own_word words) ≡ test → Scans (command_plan words)
command-scans words true is = subst (λ (test : Bool). Scans (if test then gcc_command words else other_command words)) (sym is) (gcc-scans words (gcc.plan_of words) refl)
command-scans words false is = subst (λ (test : Bool). Scans (if test then gcc_command words else other_command words)) (sym is) (other-scans (binutils.plan_of words))

-- the same of a line's command
abbrev LineScans : Result (Option LineCommand) Halt → Type 0
LineScans (Ok None) = Unit {0}
LineScans (Ok (Some command)) = AllByRecursion ScansForCpp command.plan.steps
LineScans (Err halt) = Unit {0}

planned-scans : (number : ℕ) (words : List (List ℕ)) (found : Result Plan PlanFault) → Scans found → LineScans (planned_command number words found)
planned-scans number words (Ok plan) h = h
planned-scans number words (Err (Refused at reason)) h = tt
planned-scans number words (Err Memory) h = tt

worded-scans : (line : ScriptLine) (found : Result (List (List ℕ)) PlanFault) → LineScans (worded_command line found)
worded-scans line (Ok []) = tt
worded-scans line (Ok (word ∷ words)) = planned-scans line.number (word ∷ words) (command_plan (word ∷ words)) (command-scans (word ∷ words) (is_gcc word) refl)
worded-scans line (Err (Refused at reason)) = tt
worded-scans line (Err Memory) = tt

-- the plan of a line's command scans for the preprocessor alone
pub line-scans : (line : ScriptLine) (command : LineCommand) → line_command line ≡ Ok (Some command) → AllByRecursion ScansForCpp command.plan.steps
line-scans line command is = subst LineScans is (worded-scans line (words_of line.text))
