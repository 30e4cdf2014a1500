use Rattle.model_binutils.proofs.InputPaths.{old_is_path}
use Rattle.model_binutils.proofs.one_input.ranlib_step.Goals as goal

pub run_over-requires : goal.run_over-requires
run_over-requires c = old_is_path
