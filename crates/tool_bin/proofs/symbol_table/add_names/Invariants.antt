use Rattle.std.proofs.Common.{◌≡◌, ◌++◌, take}
use Rattle.std.specs.List.{flat_map}
use Rattle.tool_bin.specs.SymbolTable.{zero_terminated}
use Rattle.tool_bin.proofs.symbol_table.add_names.Given as goal

abbrev pub invariant-symbols : goal.invariant-symbols
invariant-symbols l = l.names ≡ l.initial.names ++ flat_map zero_terminated (take l.symbol-index l.symbols)
