use Rattle.gg_cli.proofs.WritesJoin.{Writes-then, Writes-stop}
use Rattle.gg_cli.proofs.pieces.write_line.Goals as goal

pub returns-in_err-write : goal.returns-in_err-write
returns-in_err-write g c = Writes-stop _ c.write.ensures c.in_err-write.was c.from_residual.ensures

pub returns-in_err-write_pieces : goal.returns-in_err-write_pieces
returns-in_err-write_pieces g c = Writes-then c.write.ensures c.in_ok-write.was (Writes-stop _ c.write_pieces.ensures c.in_err-write_pieces.was c.from_residual-in_err-write_pieces.ensures)

pub returns : goal.returns
returns g c = Writes-then c.write.ensures c.in_ok-write.was (Writes-then c.write_pieces.ensures c.in_ok-write_pieces.was c.write-2.ensures)
