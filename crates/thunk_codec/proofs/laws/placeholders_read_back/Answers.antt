use Rattle.thunk_codec.proofs.Placeholders.{placeholder_of-text, text-placeholder_of}
use Rattle.thunk_codec.proofs.laws.placeholders_read_back.Goals as goal

pub returns : goal.returns
returns c = λ bytes name index. (placeholder_of-text bytes (name, index), text-placeholder_of bytes name index)
