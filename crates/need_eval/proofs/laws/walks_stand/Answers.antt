use Rattle.need_eval.proofs.WalksStand.{walk-stands}
use Rattle.need_eval.proofs.laws.walks_stand.Goals as goal

pub returns : goal.returns
returns c = walk-stands
