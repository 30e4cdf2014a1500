use Rattle.model_gcc.proofs.PlansAreSmall.{plan_small}
use Rattle.model_gcc.proofs.building.build_of.Goals as goal

pub stop-requires : goal.stop-requires
stop-requires c = let s = plan_small c.requires.0 c.args.plan.now c.requires.1 in record { few = s.few; operands = s.operands }

pub stop-requires-in-Compile : goal.stop-requires-in-Compile
stop-requires-in-Compile c = let s = plan_small c.requires.0 c.args.plan.now c.requires.1 in record { few = s.few; operands = s.operands }

pub stop-requires-in-Assemble : goal.stop-requires-in-Assemble
stop-requires-in-Assemble c = let s = plan_small c.requires.0 c.args.plan.now c.requires.1 in record { few = s.few; operands = s.operands }

pub link-requires : goal.link-requires
link-requires c = let s = plan_small c.requires.0 c.args.plan.now c.requires.1 in record { few = s.few; operands = s.operands }
