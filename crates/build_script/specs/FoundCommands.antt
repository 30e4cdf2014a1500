-- What a call that reads a line answers.
use Rattle.std.specs.Prelude.{◌≡◌, Option, Some, None, Result, Ok, Err}
use Rattle.build_plan.specs.Fitting.{IsFitPlan}
use Rattle.build_script.specs.declared.line_command.LineCommand.{LineCommand}
use Rattle.build_script.specs.declared.line_fault.LineFault.{LineFault}
use Rattle.build_script.specs.declared.line_fault.LineFault.TheVariants.{Word, Apply, Tool, Memory}
use Rattle.build_script.specs.LineCommand.{Halt, AtWord}

-- what was found is what the definition finds, unless memory was refused
abbrev pub FindsCommand : Result (Option LineCommand) LineFault → Result (Option LineCommand) Halt → Type 0
FindsCommand (Ok found) wanted = wanted ≡ Ok found
FindsCommand (Err (Word line word reason)) wanted = wanted ≡ Err (AtWord line word reason)
FindsCommand (Err (Apply line fault)) wanted = ⊥
FindsCommand (Err (Tool line status)) wanted = ⊥
FindsCommand (Err Memory) wanted = Unit {0}

-- each thunk of a command's plan keeps a thunk's rules
abbrev pub IsFitCommand : Option LineCommand → Type 0
IsFitCommand None = Unit {0}
IsFitCommand (Some command) = IsFitPlan command.plan
