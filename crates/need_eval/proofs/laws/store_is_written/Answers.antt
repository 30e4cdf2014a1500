use Rattle.need_eval.proofs.StoreIsWritten as growth
use Rattle.need_eval.proofs.laws.store_is_written.Goals as goal

pub returns : goal.returns
returns c = growth.store_is_written
