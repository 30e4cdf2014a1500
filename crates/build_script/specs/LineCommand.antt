-- What a line of a build script says: nothing, or a command with its plan; or why the script halts there.
use Rattle.std.specs.Prelude.{ℕ, List, [], ◌∷◌, Option, Some, None, Result, Ok, Err}
use Rattle.file_tree.specs.declared.model_fault.PlanFault.{PlanFault}
use Rattle.file_tree.specs.declared.model_fault.PlanFault.TheVariants.{Refused, Memory}
use Rattle.file_tree.specs.declared.model_fault.Reason.{Reason}
use Rattle.file_tree.specs.declared.model_fault.Reason.TheVariants.{TooMany}
use Rattle.build_plan.specs.declared.plan.Plan.{Plan}
use Rattle.build_plan.specs.Doing.{Why, File, Unmodelled, Clash, Tool}
use Rattle.build_script.specs.declared.line_command.LineCommand.{LineCommand}
use Rattle.build_script.specs.declared.lines.ScriptLine.{ScriptLine}
use Rattle.build_script.specs.Commands.{own_word, word_at, command_plan}
use Rattle.build_script.specs.LineWords.{words_of}
use Rattle.build_script.specs.Pieces.{piece_of}

-- why a script halts at the line of a number: a word of it is refused for a reason, or its work stops
pub data Halt : Type 0 where
  AtWord : ℕ → List ℕ → Reason → Halt
  AtWork : ℕ → Why → Halt

-- why the line of a number halts where its work stops; a reason is shown with the command's own word
abbrev pub halt_for : ℕ → List (List ℕ) → Why → Halt
halt_for number words (File refusal) = AtWork number (File refusal)
halt_for number words (Unmodelled reason) = AtWord number (own_word words) reason
halt_for number words (Clash name found fresh) = AtWork number (Clash name found fresh)
halt_for number words (Tool status) = AtWork number (Tool status)

-- a command with its plan, or the word of it that is refused. (No definition answers want of memory.)
abbrev pub planned_command : ℕ → List (List ℕ) → Result Plan PlanFault → Result (Option LineCommand) Halt
planned_command number words (Ok plan) = Ok (Some (record { words = words; plan = plan }))
planned_command number words (Err (Refused at reason)) = Err (AtWord number (word_at words at) reason)
planned_command number words (Err Memory) = Err (AtWord number (own_word words) TooMany)

-- a line by its words: without any it says nothing; a word that is left to a shell is shown by its piece of the line
abbrev pub worded_command : ScriptLine → Result (List (List ℕ)) PlanFault → Result (Option LineCommand) Halt
worded_command line (Ok []) = Ok None
worded_command line (Ok (word ∷ words)) = planned_command line.number (word ∷ words) (command_plan (word ∷ words))
worded_command line (Err (Refused at reason)) = Err (AtWord line.number (piece_of line.text at) reason)
worded_command line (Err Memory) = Err (AtWord line.number [] TooMany)

-- what a line says
abbrev pub line_command : ScriptLine → Result (Option LineCommand) Halt
line_command line = worded_command line (words_of line.text)
