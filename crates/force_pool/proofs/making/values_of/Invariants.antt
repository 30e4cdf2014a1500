use Rattle.force_pool.specs.Values.{AreValues}
use Rattle.force_pool.proofs.making.values_of.Given as goal

abbrev pub invariant-inputs : goal.invariant-inputs
invariant-inputs l = AreValues l.values
