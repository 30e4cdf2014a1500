use Rattle.need_eval.proofs.WalksGoOn.{is_supplied}
use Rattle.need_eval.proofs.laws.walks_are_supplied.Goals as goal

pub returns : goal.returns
returns c = is_supplied
