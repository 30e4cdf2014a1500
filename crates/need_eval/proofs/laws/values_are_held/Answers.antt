use Rattle.need_eval.proofs.ValuesAreHeld.{values-held, outputs-held, outputs-begin}
use Rattle.need_eval.proofs.laws.values_are_held.Goals as goal

pub returns-clause-values : goal.returns-clause-values
returns-clause-values c = values-held

pub returns-clause-outputs : goal.returns-clause-outputs
returns-clause-outputs c = outputs-held

pub returns-clause-begins : goal.returns-clause-begins
returns-clause-begins c = outputs-begin
