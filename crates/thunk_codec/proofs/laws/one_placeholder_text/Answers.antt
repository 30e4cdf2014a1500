use Rattle.std.proofs.Common.{sym, ◌∙◌}
use Rattle.thunk_codec.proofs.Placeholders.{one_placeholder}
use Rattle.thunk_codec.proofs.laws.one_placeholder_text.Goals as goal

pub returns-clause-output : goal.returns-clause-output
returns-clause-output c = λ bytes n m i j. one_placeholder bytes n m i j

pub returns-clause-text : goal.returns-clause-text
returns-clause-text c = λ a b n i h k. h.text ∙ sym k.text
