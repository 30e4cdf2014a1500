use Rattle.std.proofs.Common.{◌≡◌, length}
use Rattle.thunk_codec.specs.Thunk.{are_distinct}
use Rattle.thunk_codec.proofs.rules.paths_are_distinct.Given as goal

abbrev pub invariant-paths : goal.invariant-paths
invariant-paths l = are_distinct l.rest ≡ are_distinct l.paths

abbrev pub decreases-paths : goal.decreases-paths
decreases-paths l = length l.rest
