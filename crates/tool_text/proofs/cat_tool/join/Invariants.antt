use Rattle.std.proofs.Common.{◌≡◌, take}
use Rattle.std.specs.List.{flat_map}
use Rattle.tool_text.proofs.cat_tool.join.Given as goal

abbrev pub invariant-inputs : goal.invariant-inputs
invariant-inputs l = l.all ≡ flat_map (λ input. input.1) (take l.bytes-index l.inputs)
