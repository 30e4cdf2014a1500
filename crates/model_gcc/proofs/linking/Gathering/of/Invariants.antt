use Rattle.std.proofs.Common.{length}
use Rattle.model_gcc.proofs.StepsAreFew.{Gathers}
use Rattle.model_gcc.proofs.linking.Gathering.of.Given as goal

abbrev pub invariant-operands : goal.invariant-operands
invariant-operands l = Gathers l.plan l.rest l.given

abbrev pub decreases-operands : goal.decreases-operands
decreases-operands l = length l.rest
