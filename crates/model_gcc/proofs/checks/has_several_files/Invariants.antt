use Rattle.std.proofs.Common.{◌≡◌, length}
use Rattle.model_gcc.specs.Checks.{has_several_files}
use Rattle.model_gcc.proofs.checks.has_several_files.Given as goal

abbrev pub invariant-operands : goal.invariant-operands
invariant-operands l = has_several_files l.rest ≡ has_several_files l.operands

abbrev pub decreases-operands : goal.decreases-operands
decreases-operands l = length l.rest
