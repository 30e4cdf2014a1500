use Rattle.std.proofs.Common.{◌≡◌, length}
use Rattle.model_gcc.specs.Slots.{no_words, with_words}
use Rattle.model_gcc.proofs.slots.Slots.read.Given as goal

abbrev pub invariant-words : goal.invariant-words
invariant-words l = with_words l.rest l.given ≡ with_words l.words no_words

abbrev pub decreases-words : goal.decreases-words
decreases-words l = length l.rest
