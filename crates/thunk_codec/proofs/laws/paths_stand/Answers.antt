use Rattle.thunk_codec.proofs.Paths.{path_of-is_path, path_is_path}
use Rattle.thunk_codec.proofs.laws.paths_stand.Goals as goal

pub returns-clause-again : goal.returns-clause-again
returns-clause-again c = path_of-is_path

pub returns-clause-normal : goal.returns-clause-normal
returns-clause-normal c = path_is_path
