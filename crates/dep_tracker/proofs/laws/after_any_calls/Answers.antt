use Rattle.dep_tracker.proofs.OutcomesAreTracked.{after-tracked}
use Rattle.dep_tracker.proofs.laws.after_any_calls.Goals as goal

pub returns : goal.returns
returns c = after-tracked
