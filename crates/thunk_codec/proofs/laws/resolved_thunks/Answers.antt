use Rattle.thunk_codec.proofs.Resolves.{resolved_is_thunk, refs_of_resolved}
use Rattle.thunk_codec.proofs.laws.resolved_thunks.Goals as goal

pub returns-clause-thunk : goal.returns-clause-thunk
returns-clause-thunk c = resolved_is_thunk

pub returns-clause-refs : goal.returns-clause-refs
returns-clause-refs c = refs_of_resolved
