use Rattle.need_eval.specs.Eval.{Refused}
use Rattle.need_eval.specs.declared.fault.Refusal.TheVariants.{TooBig}
use Rattle.need_eval.proofs.ValuesAreHeld.{jobs-there, stop-shows}
use Rattle.need_eval.proofs.laws.jobs_are_there.Goals as goal

pub returns-clause-made : goal.returns-clause-made
returns-clause-made c = jobs-there

pub returns-clause-too_big : goal.returns-clause-too_big
returns-clause-too_big c = λ answer budget refs first name size last is. stop-shows answer budget refs first (Refused (TooBig name size)) last is
