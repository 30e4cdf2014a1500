use Rattle.std.proofs.Common.{length}
use Rattle.model_binutils.proofs.FilesMade.{AreKept}
use Rattle.model_binutils.proofs.stripping.strip_targets.Given as goal

abbrev pub invariant-files : goal.invariant-files
invariant-files l = AreKept l.output l.files l.targets l.step l.rest

abbrev pub decreases-files : goal.decreases-files
decreases-files l = length l.rest
