use Rattle.model_binutils.proofs.InputPaths.{old_is_path}
use Rattle.model_binutils.proofs.insertion.insertion.Goals as goal

pub known_path-requires : goal.known_path-requires
known_path-requires c = old_is_path
