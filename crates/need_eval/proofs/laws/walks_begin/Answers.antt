use Rattle.need_eval.proofs.WalksGoOn.{begins}
use Rattle.need_eval.proofs.laws.walks_begin.Goals as goal

pub returns : goal.returns
returns c = begins
