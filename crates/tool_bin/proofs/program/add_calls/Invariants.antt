use Rattle.std.proofs.Common.{◌≡◌, length, fold}
use Rattle.tool_bin.specs.Program.{wanted_by}
use Rattle.tool_bin.proofs.program.add_calls.Given as goal

abbrev pub invariant-code : goal.invariant-code
invariant-code l = fold wanted_by l.wanted l.rest ≡ fold wanted_by l.initial.wanted l.code

abbrev pub decreases-code : goal.decreases-code
decreases-code l = length l.rest
