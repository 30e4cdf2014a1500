use Rattle.need_eval.proofs.StopAndAgain.{own-notes}
use Rattle.need_eval.proofs.laws.stopping.own_notes_are_true.Goals as goal

pub returns : goal.returns
returns c = own-notes
