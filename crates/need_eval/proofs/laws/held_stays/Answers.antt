use Rattle.need_eval.proofs.HeldStays.{values_of-hold}
use Rattle.need_eval.proofs.laws.held_stays.Goals as goal

pub returns : goal.returns
returns c = values_of-hold
