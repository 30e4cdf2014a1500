use Rattle.std.proofs.Common.{◌≡◌, ◌++◌, length, map}
use Rattle.build_plan.specs.declared.plan.Target.TheVariants.{Drop}
use Rattle.model_binutils.proofs.building.removal.Given as goal

abbrev pub invariant-paths : goal.invariant-paths
invariant-paths l = l.targets ++ map Drop l.rest ≡ map Drop l.paths

abbrev pub decreases-paths : goal.decreases-paths
decreases-paths l = length l.rest
