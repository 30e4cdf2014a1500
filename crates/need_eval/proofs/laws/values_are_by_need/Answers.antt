use Rattle.need_eval.proofs.ValuesAreByNeed.{value_of-is}
use Rattle.need_eval.proofs.laws.values_are_by_need.Goals as goal

pub returns : goal.returns
returns c = value_of-is
