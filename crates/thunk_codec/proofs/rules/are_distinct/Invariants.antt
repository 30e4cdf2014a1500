use Rattle.std.proofs.Common.{◌≡◌, length}
use Rattle.thunk_codec.specs.Thunk.{are_distinct}
use Rattle.thunk_codec.proofs.rules.are_distinct.Given as goal

abbrev pub invariant-texts : goal.invariant-texts
invariant-texts l = are_distinct l.rest ≡ are_distinct l.texts

abbrev pub decreases-texts : goal.decreases-texts
decreases-texts l = length l.rest
