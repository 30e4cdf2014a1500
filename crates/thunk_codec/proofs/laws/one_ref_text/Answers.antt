use Rattle.thunk_codec.proofs.References.{same_ref}
use Rattle.thunk_codec.proofs.laws.one_ref_text.Goals as goal

pub returns : goal.returns
returns c = same_ref
