-- Build scripts: lines done one after another, each in the tree that the line before leaves, until one halts.
use Rattle.std.specs.Prelude.{ℕ, ◌+◌, List, [], ◌∷◌, Option, Some, None, Result, Ok, Err}
use Rattle.thunk_codec.specs.declared.job.Job.{Job}
use Rattle.thunk_codec.specs.declared.job.Outcome.{Outcome}
use Rattle.blob_store.specs.Store.{Store}
use Rattle.file_tree.specs.Files.{Files}
use Rattle.build_plan.specs.declared.plan.Scanning.{Scanning}
use Rattle.build_plan.specs.Doing.{Ended, Got, Stopped}
use Rattle.build_plan.specs.Symbolic.{Work, begun, symbolic}
use Rattle.build_plan.specs.Way.{Way, done}
use Rattle.build_script.specs.declared.line_command.LineCommand.{LineCommand}
use Rattle.build_script.specs.declared.lines.ScriptLine.{ScriptLine}
use Rattle.build_script.specs.AtOnce.{Ran, not_run, at_once}
use Rattle.build_script.specs.LineCommand.{Halt, halt_for, line_command}
use Rattle.build_script.specs.ScriptLines.{script_lines}

-- lines ended: all are done, so many of them commands, or one halted; in this state
pub data ScriptEnd (S : Type 0) : Type 0 where
  Finished : ℕ → S → ScriptEnd S
  Halted : Halt → S → ScriptEnd S

-- the state in which lines ended
abbrev pub state_at : {S : Type 0} → ScriptEnd S → S
state_at (Finished count s) = s
state_at (Halted halt s) = s

-- how a line ends, by the end of its command's work
abbrev pub line_end : {S A : Type 0} → ℕ → List (List ℕ) → Ended S A → ScriptEnd S
line_end number words (Got x s) = Finished 1 s
line_end number words (Stopped why s) = Halted (halt_for number words why) s

-- what follows where lines are done
abbrev pub go_on : {S : Type 0} → ScriptEnd S → (ℕ → S → ScriptEnd S) → ScriptEnd S
go_on (Finished count s) next = next count s
go_on (Halted halt s) next = Halted halt s

module _ {S A : Type 0} (way : Way S A) where
  -- what a line says is done; one that says nothing is passed over and isn't counted
  abbrev pub command_done : ℕ → Result (Option LineCommand) Halt → S → ScriptEnd S
  command_done number (Ok None) s = Finished 0 s
  command_done number (Ok (Some command)) s = line_end number command.words (done way command.plan s)
  command_done number (Err halt) s = Halted halt s

  -- one line
  abbrev pub line_done : ScriptLine → S → ScriptEnd S
  line_done line s = command_done line.number (line_command line) s

  -- some lines, after so many commands
  abbrev pub lines_done : List ScriptLine → ℕ → S → ScriptEnd S
  lines_done [] count s = Finished count s
  lines_done (line ∷ lines) count s = go_on (line_done line s) (λ more after. lines_done lines (count + more) after)

-- lines inferred: thunks are stored, and no tool is run
abbrev pub lines_inferred : List ScriptLine → Store → Files → ScriptEnd Work
lines_inferred lines store files = lines_done symbolic lines 0 (begun store files)

-- lines built at once: each tool is run, by what tools give
abbrev pub lines_built : (Job → Outcome) → (Files → Scanning → Outcome) → List ScriptLine → Files → ScriptEnd Ran
lines_built outcome whole lines files = lines_done (at_once outcome whole) lines 0 (not_run files)

-- the script of a text, by each
abbrev pub script_inferred : List ℕ → Store → Files → ScriptEnd Work
script_inferred text store files = lines_inferred (script_lines text) store files

abbrev pub script_built : (Job → Outcome) → (Files → Scanning → Outcome) → List ℕ → Files → ScriptEnd Ran
script_built outcome whole text files = lines_built outcome whole (script_lines text) files
