use Rattle.std.proofs.Common.{◌≡◌, ◌++◌, take}
use Rattle.std.specs.List.{flat_map}
use Rattle.tool_bin.specs.Object.{debug_text}
use Rattle.tool_bin.proofs.object.write_debug.Given as goal

abbrev pub invariant-debug : goal.invariant-debug
invariant-debug l = l.out ≡ l.initial.out ++ flat_map debug_text (take l.line-index l.debug)
