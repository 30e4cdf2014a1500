use Rattle.std.proofs.Common.{◌≡◌, length}
use Rattle.tool_bin.specs.Program.{wanted_with}
use Rattle.tool_bin.proofs.program.add_wanted.Given as goal

abbrev pub invariant-symbols : goal.invariant-symbols
invariant-symbols l = wanted_with l.wanted l.rest ≡ wanted_with l.initial.wanted l.symbols

abbrev pub decreases-symbols : goal.decreases-symbols
decreases-symbols l = length l.rest
