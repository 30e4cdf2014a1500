use Rattle.thunk_codec.proofs.Lengths.{jobs_are_short}
use Rattle.thunk_codec.proofs.laws.jobs_are_short.Goals as goal

pub returns : goal.returns
returns c = jobs_are_short
