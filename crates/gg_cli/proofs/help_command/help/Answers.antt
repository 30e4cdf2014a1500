use Rattle.gg_cli.proofs.StepsMakeTheAnswer.{text_printed, text_unprinted}
use Rattle.gg_cli.proofs.help_command.help.Goals as goal

pub returns-in-Ok-clause-ends : goal.returns-in-Ok-clause-ends
returns-in-Ok-clause-ends g c kept files = text_printed _ kept files _ _ _ _ _ c.in-Ok.ensures

pub returns-in-Err-clause-ends : goal.returns-in-Err-clause-ends
returns-in-Err-clause-ends g c kept files = rw c.output_fault.ensures (text_unprinted _ kept files _ _ _ _ (Unit {0}) _ c.in-Err.ensures)
