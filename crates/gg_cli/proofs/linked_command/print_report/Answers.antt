use Rattle.gg_cli.proofs.WritesJoin.{Writes-then, Writes-stop}
use Rattle.gg_cli.proofs.linked_command.print_report.Goals as goal

pub returns-in_err-print_number : goal.returns-in_err-print_number
returns-in_err-print_number g c = Writes-stop _ c.print_number.ensures c.in_err-print_number.was c.from_residual.ensures

pub returns-in_err-print_number-2 : goal.returns-in_err-print_number-2
returns-in_err-print_number-2 g c = Writes-then c.print_number.ensures c.in_ok-print_number.was (Writes-stop _ c.print_number-2.ensures c.in_err-print_number-2.was c.from_residual-in_err-print_number-2.ensures)

pub returns : goal.returns
returns g c = Writes-then c.print_number.ensures c.in_ok-print_number.was (Writes-then c.print_number-2.ensures c.in_ok-print_number-2.was c.print_number-3.ensures)
