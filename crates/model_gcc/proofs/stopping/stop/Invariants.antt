use Rattle.std.proofs.Common.{length}
use Rattle.model_gcc.proofs.StepsAreFew.{Makes}
use Rattle.model_gcc.proofs.stopping.stop.Given as goal

abbrev pub invariant-operands : goal.invariant-operands
invariant-operands l = Makes l.plan l.rest l.made

abbrev pub decreases-operands : goal.decreases-operands
decreases-operands l = length l.rest
