use Rattle.thunk_codec.proofs.Folders.{path_joined}
use Rattle.thunk_codec.proofs.laws.parts_join.Goals as goal

pub returns : goal.returns
returns c = path_joined
