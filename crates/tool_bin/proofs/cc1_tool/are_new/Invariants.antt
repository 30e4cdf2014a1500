use Rattle.std.proofs.Common.{◌≡◌, [], length, map}
use Rattle.tool_bin.specs.Object.{are_new}
use Rattle.tool_bin.proofs.cc1_tool.are_new.Given as goal

abbrev pub invariant-definitions : goal.invariant-definitions
invariant-definitions l = are_new l.seen (map (λ definition. definition.name) l.rest) ≡ are_new [] (map (λ definition. definition.name) l.definitions)

abbrev pub decreases-definitions : goal.decreases-definitions
decreases-definitions l = length l.rest
