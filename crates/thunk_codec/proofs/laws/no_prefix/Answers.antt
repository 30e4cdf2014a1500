use Rattle.thunk_codec.proofs.Thunks.{no_rest}
use Rattle.thunk_codec.proofs.laws.no_prefix.Goals as goal

pub returns : goal.returns
returns c = no_rest
