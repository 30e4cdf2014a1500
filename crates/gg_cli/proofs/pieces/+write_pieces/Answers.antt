use Rattle.std.proofs.Common.{arith}
use Rattle.gg_cli.proofs.WritesJoin.{Writes-then}
use Rattle.gg_cli.proofs.PiecesJoin.{pieces_text-more}
use Rattle.gg_cli.proofs.pieces.+write_pieces.Goals as goal

pub returns-in_ok-write_piece-in-len1-up : goal.returns-in_ok-write_piece-in-len1-up
returns-in_ok-write_piece-in-len1-up g t c =
    rw (pieces_text-more c.args.pieces.now c.first-item.result (omega (arith, c.in-len1-up.len_at_least)) c.first-item.is)
    (Writes-then c.write_piece-in-len1-up.ensures c.in_ok-write_piece-in-len1-up.was c.write_pieces.ensures)
