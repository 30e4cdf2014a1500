use Rattle.thunk_codec.proofs.Resolves.{refs_of_thunk}
use Rattle.thunk_codec.proofs.laws.thunks_have_refs.Goals as goal

pub returns : goal.returns
returns c = refs_of_thunk
