use Rattle.model_gcc.proofs.KnownPaths.{program_is_path}
use Rattle.model_gcc.proofs.outputs.program_output.Goals as goal

pub output_or-requires : goal.output_or-requires
output_or-requires c = program_is_path
