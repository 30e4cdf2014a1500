use Rattle.need_eval.proofs.StopAndAgain.{stop-and-again}
use Rattle.need_eval.proofs.laws.stopping.stop_and_again.Goals as goal

pub returns : goal.returns
returns c = stop-and-again
