use Rattle.std.proofs.Common.{◌≡◌, length}
use Rattle.eval_tests.proofs.joining.lengthened.Given as goal

abbrev pub invariant-outputs : goal.invariant-outputs
invariant-outputs l = length l.texts ≡ l.index
