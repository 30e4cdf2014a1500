use Rattle.thunk_codec.proofs.PublicLaws.{in_is_path}
use Rattle.model_gcc.proofs.stages.run_over.Goals as goal

pub known_path-requires : goal.known_path-requires
known_path-requires c = in_is_path
