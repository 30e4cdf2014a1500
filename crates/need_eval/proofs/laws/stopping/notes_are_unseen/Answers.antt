use Rattle.need_eval.proofs.StopAndAgain.{notes-unseen}
use Rattle.need_eval.proofs.laws.stopping.notes_are_unseen.Goals as goal

pub returns : goal.returns
returns c = notes-unseen
