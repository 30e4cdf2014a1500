use Rattle.std.proofs.Common.{◌≡◌, take}
use Rattle.tool_bin.specs.Object.{names_of}
use Rattle.tool_bin.proofs.object_reading.names_of.Given as goal

abbrev pub invariant-symbols : goal.invariant-symbols
invariant-symbols l = l.names ≡ names_of (take l.symbol-index l.symbols)
