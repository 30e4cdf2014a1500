use Rattle.model_binutils.proofs.PlansAreSmall.{planned_few}
use Rattle.model_binutils.proofs.building.build_of.Goals as goal

pub strip-requires : goal.strip-requires
strip-requires c = rw c.as_slice-in-Strip.ensures (planned_few c.args.plan.now c.in-Strip.output c.in-Strip.files c.requires c.in-Strip.is)
