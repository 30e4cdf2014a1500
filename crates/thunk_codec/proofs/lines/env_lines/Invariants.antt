use Rattle.std.proofs.Common.{length}
use Rattle.thunk_codec.specs.Reading.{env_at}
use Rattle.thunk_codec.proofs.LinesReadSoFar.{Going}
use Rattle.thunk_codec.proofs.lines.env_lines.Given as goal

abbrev pub invariant-lines : goal.invariant-lines
invariant-lines l = Going 101 env_at l.bytes l.lines l.rest

abbrev pub decreases-lines : goal.decreases-lines
decreases-lines l = length l.rest
