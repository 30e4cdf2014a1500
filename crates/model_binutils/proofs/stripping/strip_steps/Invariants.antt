use Rattle.std.proofs.Common.{◌≡◌, ◌++◌, length, map}
use Rattle.model_binutils.specs.PlanOf.{strip_step}
use Rattle.model_binutils.proofs.stripping.strip_steps.Given as goal

abbrev pub invariant-files : goal.invariant-files
invariant-files l = l.steps ++ map (strip_step l.output) l.rest ≡ map (strip_step l.output) l.files

abbrev pub decreases-files : goal.decreases-files
decreases-files l = length l.rest
