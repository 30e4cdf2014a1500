use Rattle.std.proofs.Common.{◌≡◌, length}
use Rattle.build_script.specs.declared.moves.Mode.TheVariants.{Between}
use Rattle.build_script.specs.Pieces.{from_word}
use Rattle.build_script.proofs.pieces.from_word.Given as goal

abbrev pub invariant-bytes : goal.invariant-bytes
invariant-bytes l = from_word l.at l.number l.mode l.rest ≡ from_word l.at 0 Between l.line

abbrev pub decreases-bytes : goal.decreases-bytes
decreases-bytes l = length l.rest
