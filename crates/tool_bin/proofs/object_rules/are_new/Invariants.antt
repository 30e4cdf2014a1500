use Rattle.std.proofs.Common.{◌≡◌, [], length}
use Rattle.tool_bin.specs.Object.{are_new, names_of}
use Rattle.tool_bin.proofs.object_rules.are_new.Given as goal

abbrev pub invariant-symbols : goal.invariant-symbols
invariant-symbols l = are_new l.seen (names_of l.rest) ≡ are_new [] (names_of l.symbols)

abbrev pub decreases-symbols : goal.decreases-symbols
decreases-symbols l = length l.rest
