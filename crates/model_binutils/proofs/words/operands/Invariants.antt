use Rattle.std.proofs.Common.{◌≡◌, [], length}
use Rattle.model_binutils.specs.Words.{operands_after}
use Rattle.model_binutils.proofs.words.operands.Given as goal

abbrev pub invariant-words : goal.invariant-words
invariant-words l = operands_after l.wanted l.paths l.place l.rest ≡ operands_after l.wanted [] l.at l.words

abbrev pub decreases-words : goal.decreases-words
decreases-words l = length l.rest
