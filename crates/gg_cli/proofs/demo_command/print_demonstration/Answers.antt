use Rattle.gg_cli.proofs.WritesJoin.{Writes-then, Writes-stop}
use Rattle.gg_cli.proofs.demo_command.print_demonstration.Goals as goal

pub returns-in_err-print_count : goal.returns-in_err-print_count
returns-in_err-print_count g c = Writes-stop _ c.print_count.ensures c.in_err-print_count.was c.from_residual.ensures

pub returns-in_err-print_count-2 : goal.returns-in_err-print_count-2
returns-in_err-print_count-2 g c = Writes-then c.print_count.ensures c.in_ok-print_count.was (Writes-stop _ c.print_count-2.ensures c.in_err-print_count-2.was c.from_residual-in_err-print_count-2.ensures)

pub returns : goal.returns
returns g c = Writes-then c.print_count.ensures c.in_ok-print_count.was (Writes-then c.print_count-2.ensures c.in_ok-print_count-2.was c.write_pieces.ensures)
