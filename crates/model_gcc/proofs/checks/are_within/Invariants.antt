use Rattle.std.proofs.Common.{◌≡◌, ◌+◌, length}
use Rattle.model_gcc.specs.Checks.{total_length}
use Rattle.model_gcc.proofs.checks.are_within.Given as goal

abbrev pub invariant-words : goal.invariant-words
invariant-words l = total_length l.words + l.left ≡ total_length l.rest + l.most

abbrev pub decreases-words : goal.decreases-words
decreases-words l = length l.rest
