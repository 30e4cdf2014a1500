use Rattle.gg_cli.proofs.WritesJoin.{Writes-then, Writes-stop}
use Rattle.gg_cli.proofs.script_lines.print_inferred.Goals as goal

pub returns-in_err-print_count : goal.returns-in_err-print_count
returns-in_err-print_count g c = Writes-stop _ c.print_count.ensures c.in_err-print_count.was c.from_residual.ensures

pub returns : goal.returns
returns g c = Writes-then c.print_count.ensures c.in_ok-print_count.was c.print_count-2.ensures
