use Rattle.std.proofs.Common.{◌+◌, ◌*◌}
use Rattle.eval_tests.proofs.plain.Plain.+plain.Given as goal

abbrev pub decreases-output : goal.decreases-output
decreases-output l = 3 * l.left

abbrev pub decreases-value : goal.decreases-value
decreases-value l = 3 * l.left + 1

abbrev pub decreases-values : goal.decreases-values
decreases-values l = 3 * l.left + 2
