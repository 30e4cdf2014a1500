use Rattle.std.proofs.Common.{◌≡◌, ◌+◌, length, sum_by, take}
use Rattle.object_name.specs.Name.{max_size}
use Rattle.eval_tests.proofs.joining.fit_together.Given as goal

abbrev pub invariant-texts : goal.invariant-texts
invariant-texts l = l.room + sum_by length (take l.text-index l.texts) ≡ max_size
