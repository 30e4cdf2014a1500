use Rattle.thunk_codec.proofs.PartsFit.{parts-fit}
use Rattle.thunk_codec.proofs.laws.parts_fit.Goals as goal

pub returns : goal.returns
returns c = parts-fit
