use Rattle.std.proofs.Common.{◌≡◌, ◌++◌, take}
use Rattle.std.specs.List.{flat_map}
use Rattle.tool_bin.specs.Object.{symbol_text}
use Rattle.tool_bin.proofs.object.write_symbols.Given as goal

abbrev pub invariant-symbols : goal.invariant-symbols
invariant-symbols l = l.out ≡ l.initial.out ++ flat_map symbol_text (take l.symbol-index l.symbols)
