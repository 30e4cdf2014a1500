use Rattle.std.proofs.Common.{◌≡◌, length}
use Rattle.model_binutils.specs.Plan.{strip_plan}
use Rattle.model_binutils.proofs.strip_words.strip_plan.Given as goal

abbrev pub invariant-words : goal.invariant-words
invariant-words l = strip_plan l.at l.rest ≡ strip_plan 1 l.words

abbrev pub decreases-words : goal.decreases-words
decreases-words l = length l.rest
