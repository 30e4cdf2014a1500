use Rattle.gg_cli.proofs.WritesJoin.{Writes-then}
use Rattle.gg_cli.proofs.linked_command.print_all.Goals as goal

pub returns-then-wanted : goal.returns-then-wanted
returns-then-wanted g c = rw c.if-wanted.true (Writes-then c.print_values.ensures c.in_ok-print_values.was c.print_report.ensures)
