use Rattle.dep_tracker.proofs.OutcomesAreTracked.{after-one}
use Rattle.dep_tracker.proofs.laws.one_outcome.Goals as goal

pub returns : goal.returns
returns c = after-one
