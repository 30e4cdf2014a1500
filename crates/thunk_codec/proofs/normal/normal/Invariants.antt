use Rattle.std.proofs.Common.{length}
use Rattle.thunk_codec.proofs.Paths.{Reads}
use Rattle.thunk_codec.proofs.normal.normal.Given as goal

abbrev pub invariant-pieces : goal.invariant-pieces
invariant-pieces l = Reads l.path l.rest l.text

abbrev pub decreases-pieces : goal.decreases-pieces
decreases-pieces l = length l.rest
