use Rattle.std.proofs.Common.{◌≡◌, length}
use Rattle.tool_bin.specs.Object.{are_in_order}
use Rattle.tool_bin.proofs.object_rules.are_in_order.Given as goal

abbrev pub invariant-debug : goal.invariant-debug
invariant-debug l = are_in_order l.named l.rest ≡ are_in_order l.symbols l.debug

abbrev pub decreases-debug : goal.decreases-debug
decreases-debug l = length l.rest
