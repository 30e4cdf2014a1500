use Rattle.std.proofs.Common.{◌≡◌, take}
use Rattle.std.specs.List.{flat_map}
use Rattle.tool_bin.specs.Compile.{definition_text}
use Rattle.tool_bin.proofs.cc1_tool.write_definitions.Given as goal

abbrev pub invariant-definitions : goal.invariant-definitions
invariant-definitions l = l.out ≡ flat_map (definition_text l.debugging) (take l.definition-index l.definitions)
