use Rattle.std.proofs.Common.{◌≡◌, [], fold, length}
use Rattle.tool_bin.specs.Names.{with_name}
use Rattle.tool_bin.proofs.names.Names.of.Given as goal

abbrev pub invariant-texts : goal.invariant-texts
invariant-texts l = fold with_name l.names l.rest ≡ fold with_name [] l.texts

abbrev pub decreases-texts : goal.decreases-texts
decreases-texts l = length l.rest
