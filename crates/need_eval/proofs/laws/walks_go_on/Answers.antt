use Rattle.need_eval.proofs.WalksGoOn.{goes_on}
use Rattle.need_eval.proofs.laws.walks_go_on.Goals as goal

pub returns : goal.returns
returns c = goes_on
