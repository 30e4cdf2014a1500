use Rattle.std.proofs.Common.{◌≡◌, ◌++◌}
use Rattle.std.specs.Prelude.{replicate}
use Rattle.tool_bin.proofs.symbol_table.add_offsets.Given as goal

abbrev pub invariant-offsets : goal.invariant-offsets
invariant-offsets l = l.offsets ≡ l.initial.offsets ++ replicate l.counter l.offset
