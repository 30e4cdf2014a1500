use Rattle.thunk_codec.proofs.Thunks.{thunk_of-text, text-thunk_of}
use Rattle.thunk_codec.proofs.laws.texts_read_back.Goals as goal

pub returns : goal.returns
returns c = λ bytes t. (thunk_of-text bytes t, text-thunk_of bytes t)
