use Rattle.thunk_codec.proofs.Folders.{NoSlashFrom}
use Rattle.thunk_codec.proofs.normal.last_piece.Given as goal

abbrev pub invariant-bytes : goal.invariant-bytes
invariant-bytes l = NoSlashFrom l.text l.start

abbrev pub decreases-bytes : goal.decreases-bytes
decreases-bytes l = l.start
