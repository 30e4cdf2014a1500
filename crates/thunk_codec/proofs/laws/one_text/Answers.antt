use Rattle.thunk_codec.proofs.Thunks.{same_thunk, same_text}
use Rattle.thunk_codec.proofs.laws.one_text.Goals as goal

pub returns-clause-thunk : goal.returns-clause-thunk
returns-clause-thunk c = same_thunk

pub returns-clause-text : goal.returns-clause-text
returns-clause-text c = same_text
