use Rattle.std.proofs.Common.{length}
use Rattle.thunk_codec.specs.Reading.{bytes_at}
use Rattle.thunk_codec.proofs.LinesReadSoFar.{Going}
use Rattle.thunk_codec.proofs.lines.bytes_lines.Given as goal

abbrev pub invariant-lines : goal.invariant-lines
invariant-lines l = Going l.letter bytes_at l.bytes l.lines l.rest

abbrev pub decreases-lines : goal.decreases-lines
decreases-lines l = length l.rest
