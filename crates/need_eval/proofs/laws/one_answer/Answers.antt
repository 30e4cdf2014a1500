use Rattle.need_eval.proofs.ValuesHaveValueNames.{values-given}
use Rattle.need_eval.proofs.laws.one_answer.Goals as goal

pub returns : goal.returns
returns c = values-given
