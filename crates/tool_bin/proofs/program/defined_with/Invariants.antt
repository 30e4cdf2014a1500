use Rattle.std.proofs.Common.{◌≡◌, length}
use Rattle.tool_bin.specs.Program.{defined_with}
use Rattle.tool_bin.proofs.program.defined_with.Given as goal

abbrev pub invariant-symbols : goal.invariant-symbols
invariant-symbols l = defined_with l.defined l.rest ≡ defined_with l.fn.before l.symbols

abbrev pub decreases-symbols : goal.decreases-symbols
decreases-symbols l = length l.rest
