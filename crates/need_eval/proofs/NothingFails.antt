-- What makes no call of a keeper doesn't fail by it.
use Rattle.std.proofs.Common.{◌≡◌, ℕ, Result, Ok, Err, refl, arith}
use Rattle.std.specs.Prelude.{IfErr}
use Rattle.object_name.specs.Causes.{RoseBy}
use Rattle.need_eval.specs.declared.fault.EvalFault.{EvalFault}
use Rattle.need_eval.specs.declared.fault.EvalFault.TheVariants as faults
use Rattle.need_eval.specs.StepContracts.{ReadCause, failures_of, keeper_failures}

-- a fault that is possible whatever the counts are
pub fault-unfailing : (fault : EvalFault) → ((retries before after : ℕ) → ReadCause retries before after fault) → failures_of fault ≡ 0
fault-unfailing (faults.Refused refusal) cause = refl
fault-unfailing (faults.Clash name found fresh) cause = refl
fault-unfailing faults.StoreFailed cause = let rose : RoseBy 0 0 0 = cause 0 0 0 in absurd (omega (arith, rose))
fault-unfailing faults.RunFailed cause = refl
fault-unfailing faults.Memory cause = refl

pub answer-unfailing : {A : Type 0} (result : Result A EvalFault) → ((retries before after : ℕ) → IfErr result (ReadCause retries before after)) → keeper_failures result ≡ 0
answer-unfailing (Ok x) cause = refl
answer-unfailing (Err fault) cause = fault-unfailing fault cause
