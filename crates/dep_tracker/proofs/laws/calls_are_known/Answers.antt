use Rattle.dep_tracker.proofs.OutcomesAreTracked.{after-known, after-barred}
use Rattle.dep_tracker.proofs.laws.calls_are_known.Goals as goal

pub returns-clause-known : goal.returns-clause-known
returns-clause-known c = after-known

pub returns-clause-barred : goal.returns-clause-barred
returns-clause-barred c = after-barred
