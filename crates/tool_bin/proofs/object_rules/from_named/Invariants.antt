use Rattle.std.proofs.Common.{◌≡◌, length}
use Rattle.tool_bin.specs.Object.{from_named}
use Rattle.tool_bin.proofs.object_rules.from_named.Given as goal

abbrev pub invariant-symbols : goal.invariant-symbols
invariant-symbols l = from_named l.name l.rest ≡ from_named l.name l.symbols

abbrev pub decreases-symbols : goal.decreases-symbols
decreases-symbols l = length l.rest
