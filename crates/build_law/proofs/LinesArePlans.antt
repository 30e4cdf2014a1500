-- Lines that are all done are the plans of their commands, done one after another; and such plans suit the cards.
use Rattle.std.proofs.Common.{◌≡◌, ℕ, ◌+◌, Bool, true, false, cond, List, [], ◌∷◌, Option, Some, None, Result, Ok, Err, refl, sym, ap, subst}
use Rattle.std.specs.Prelude.{IfOk}
use Rattle.std.specs.List.{AllByRecursion}
use Rattle.file_tree.specs.Planning.{◌>>=◌}
use Rattle.file_tree.specs.declared.model_fault.PlanFault.{PlanFault}
use Rattle.file_tree.specs.declared.model_fault.PlanFault.TheVariants.{Refused, Memory}
use Rattle.sandbox_run.specs.Cards.{card_outcome}
use Rattle.build_plan.specs.declared.plan.Plan.{Plan}
use Rattle.build_plan.specs.Doing.{Ended, Got, Stopped}
use Rattle.build_plan.specs.Doing as doing
use Rattle.build_plan.specs.Symbolic.{begun, symbolic}
use Rattle.build_plan.specs.Way.{Way, done}
use Rattle.model_gcc.specs.declared.gcc_plan.GccPlan.{GccPlan}
use Rattle.model_gcc.specs.Plan as gcc
use Rattle.model_gcc.specs.PlanOf as gcc_plan
use Rattle.model_binutils.specs.declared.bin_plan.BinPlan.{BinPlan}
use Rattle.model_binutils.specs.Plan as binutils
use Rattle.model_binutils.specs.PlanOf as binutils_plan
use Rattle.build_script.specs.declared.line_command.LineCommand.{LineCommand}
use Rattle.build_script.specs.declared.lines.ScriptLine.{ScriptLine}
use Rattle.build_script.specs.AtOnce.{not_run, at_once}
use Rattle.build_script.specs.Builds.{built}
use Rattle.build_script.specs.Commands.{own_word, is_gcc, gcc_command, other_command, command_plan}
use Rattle.build_script.specs.LineCommand.{Halt, planned_command, worded_command, line_command}
use Rattle.build_script.specs.LineWords.{words_of}
use Rattle.build_script.specs.Script.{ScriptEnd, Finished, Halted, state_at, go_on, line_end, command_done, lines_done}
use Rattle.build_script.specs.ScriptLines.{script_lines}
use Rattle.build_script.specs.WholeTree.{cpp_whole}
use Rattle.build_law.specs.CardBuilds.{SuitsCards}
use Rattle.build_law.specs.ScriptsAgree.{ScriptsAgree}
use Rattle.build_law.proofs.CppSeesEnough.{cards-agree}
use Rattle.build_law.proofs.ModelPlansSuit.{gcc-suits, binutils-suits}

-- ---- the plans of lines

-- the plan of a command, if a line says one, before others
abbrev plan_then : Result (Option LineCommand) Halt → List Plan → List Plan
plan_then (Ok None) plans = plans
plan_then (Ok (Some command)) plans = command.plan ∷ plans
plan_then (Err halt) plans = plans

-- the plans of the commands that some lines say
abbrev plans_of : List ScriptLine → List Plan
plans_of [] = []
plans_of (line ∷ lines) = plan_then (line_command line) (plans_of lines)

-- ---- all of them are done

abbrev IsFinished : {S : Type 0} → ScriptEnd S → Type 0
IsFinished (Finished count s) = Unit {0}
IsFinished (Halted halt s) = ⊥

module _ {S A : Type 0} (way : Way S A) where
  -- the plans of lines are done where the lines are, however many commands were done before
  abbrev AreBuilt : List ScriptLine → Type 0
  AreBuilt lines = (count : ℕ) (s : S) (number : ℕ) (last : S)
      → lines_done way lines count s ≡ Finished number last → built way (plans_of lines) s ≡ Got tt last

  module _ (lines : List ScriptLine) (behind : AreBuilt lines) (count number : ℕ) (last : S) where
    -- how lines go on behind the first
    abbrev go_behind : ScriptEnd S → ScriptEnd S
    go_behind e = go_on e (λ more after. lines_done way lines (count + more) after)

    work-built : (line : ℕ) (words : List (List ℕ)) (e : Ended S (Unit {0})) → go_behind (line_end line words e) ≡ Finished number last
        → doing.go_on e (λ _. built way (plans_of lines)) ≡ Got tt last
    work-built line words (Got x after) is = behind (count + 1) after number last is
    work-built line words (Stopped why after) is = absurd (subst IsFinished (sym is) tt)

    command-built : (line : ℕ) (command : Result (Option LineCommand) Halt) (s : S)
        → go_behind (command_done way line command s) ≡ Finished number last
        → built way (plan_then command (plans_of lines)) s ≡ Got tt last
    command-built line (Ok None) s is = behind (count + 0) s number last is
    command-built line (Ok (Some command)) s is = work-built line command.words (done way command.plan s) is
    command-built line (Err halt) s is = absurd (subst IsFinished (sym is) tt)

  lines-built : (lines : List ScriptLine) → AreBuilt lines
  lines-built [] count s number last is = ap (λ (e : ScriptEnd S). Got tt (state_at e)) is
  lines-built (line ∷ lines) count s number last is = command-built lines (lines-built lines) count number last line.number (line_command line) s is

-- ---- they suit the cards

module _ (words : List (List ℕ)) where
  gcc-command-suits : (found : Result GccPlan PlanFault) → gcc.plan_of words ≡ found
      → IfOk (found >>= λ plan. Ok (gcc_plan.build_of plan)) SuitsCards
  gcc-command-suits (Ok plan) is = gcc-suits words plan is
  gcc-command-suits (Err fault) is = tt

  other-command-suits : (found : Result BinPlan PlanFault) → binutils.plan_of words ≡ found
      → IfOk (found >>= λ plan. Ok (binutils_plan.build_of plan)) SuitsCards
  other-command-suits (Ok plan) is = binutils-suits words plan is
  other-command-suits (Err fault) is = tt

  command-suits : IfOk (command_plan words) SuitsCards
  command-suits = by (is_gcc (own_word words))
    where
      by : (test : Bool) → IfOk (cond test (gcc_command words) (other_command words)) SuitsCards
      by true = gcc-command-suits (gcc.plan_of words) refl
      by false = other-command-suits (binutils.plan_of words) refl

-- a line's plan suits, if it says a command
abbrev SuitsLine : Result (Option LineCommand) Halt → Type 0
SuitsLine (Ok None) = Unit {0}
SuitsLine (Ok (Some command)) = SuitsCards command.plan
SuitsLine (Err halt) = Unit {0}

planned-suits : (number : ℕ) (words : List (List ℕ)) (found : Result Plan PlanFault) → IfOk found SuitsCards
    → SuitsLine (planned_command number words found)
planned-suits number words (Ok plan) h = h
planned-suits number words (Err (Refused at reason)) h = tt
planned-suits number words (Err Memory) h = tt

worded-suits : (line : ScriptLine) (words : Result (List (List ℕ)) PlanFault) → SuitsLine (worded_command line words)
worded-suits line (Ok []) = tt
worded-suits line (Ok (word ∷ words)) = planned-suits line.number (word ∷ words) (command_plan (word ∷ words)) (command-suits (word ∷ words))
worded-suits line (Err (Refused at reason)) = tt
worded-suits line (Err Memory) = tt

lines-suit : (lines : List ScriptLine) → AllByRecursion SuitsCards (plans_of lines)
lines-suit [] = tt
lines-suit (line ∷ lines) = by (line_command line) (worded-suits line (words_of line.text)) (plans_of lines) (lines-suit lines)
  where
    by : (command : Result (Option LineCommand) Halt) → SuitsLine command → (plans : List Plan) → AllByRecursion SuitsCards plans
        → AllByRecursion SuitsCards (plan_then command plans)
    by (Ok None) h plans others = others
    by (Ok (Some command)) h plans others = (h, others)
    by (Err halt) h plans others = others

-- ---- the law, for the text of a script

pub scripts-agree : ScriptsAgree
scripts-agree text store files budget work ran paths b =
    let lines = script_lines text in
    cards-agree (plans_of lines) (lines-suit lines) store files budget work ran paths (record {
      symbolic = lines-built symbolic lines 0 (begun store files) b.commands_inferred work b.symbolic;
      once = lines-built (at_once card_outcome cpp_whole) lines 0 (not_run files) b.commands_built ran b.once;
      no_placeholder = b.no_placeholder;
      true_notes = b.true_notes;
      no_clash = b.no_clash;
      within = b.within;
      distinct = b.distinct;
      each = b.each;
      all = b.all;
      enough = b.enough;
    })
