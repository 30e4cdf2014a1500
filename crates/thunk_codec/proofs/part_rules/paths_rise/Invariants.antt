use Rattle.std.proofs.Common.{◌≡◌, length}
use Rattle.thunk_codec.specs.Thunk.{is_strictly_increasing}
use Rattle.thunk_codec.proofs.part_rules.paths_rise.Given as goal

abbrev pub invariant-paths : goal.invariant-paths
invariant-paths l = is_strictly_increasing l.rest ≡ is_strictly_increasing l.paths

abbrev pub decreases-paths : goal.decreases-paths
decreases-paths l = length l.rest
