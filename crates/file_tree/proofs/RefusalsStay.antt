-- A refusal of the first step of a plan is that of the whole.
use Rattle.std.proofs.Common.{◌≡◌, Result, Ok, Err, IsErr, IsErrAnd, ap, ◌∙◌, sym}
use Rattle.file_tree.specs.Planning.{◌>>=◌, Refuses, Finds}
use Rattle.file_tree.specs.declared.model_fault.PlanFault.{PlanFault}
use Rattle.file_tree.specs.declared.model_fault.PlanFault.TheVariants.{Refused, Memory}

-- a step that is refused, in a whole that begins with it
pub refused_whole : {A B : Type 0} (step : Result A PlanFault) (next : A → Result B PlanFault) (whole : Result B PlanFault) → (step >>= next) ≡ whole
    → (fault : PlanFault) → Refuses fault step → (result : Result B PlanFault) → IsErr result × IsErrAnd result (λ other. other ≡ fault) → Finds result whole
refused_whole step next whole begins fault refuses (Ok found) is = absurd is.1
refused_whole step next whole begins (Refused at reason) refuses (Err other) is = rw is.1 (sym begins ∙ ap (λ s. s >>= next) refuses)
refused_whole step next whole begins Memory refuses (Err other) is = rw is.1 tt
