use Rattle.build_plan.proofs.StepsInOrder.{out-is_path}
use Rattle.build_plan.proofs.stages.one_output.Goals as goal

pub known_path-requires : goal.known_path-requires
known_path-requires c = out-is_path
