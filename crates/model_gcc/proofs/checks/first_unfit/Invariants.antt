use Rattle.std.proofs.Common.{◌≡◌, length}
use Rattle.model_gcc.specs.Checks.{first_unfit}
use Rattle.model_gcc.proofs.checks.first_unfit.Given as goal

abbrev pub invariant-operands : goal.invariant-operands
invariant-operands l = first_unfit l.stop l.rest l.left ≡ first_unfit l.stop l.operands l.places

abbrev pub decreases-operands : goal.decreases-operands
decreases-operands l = length l.rest
