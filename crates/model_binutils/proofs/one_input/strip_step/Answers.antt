use Rattle.thunk_codec.proofs.PublicLaws.{in_is_path}
use Rattle.model_binutils.proofs.one_input.strip_step.Goals as goal

pub run_over-requires : goal.run_over-requires
run_over-requires c = in_is_path
