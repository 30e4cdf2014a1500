-- What the turns of a walker come to, one after another.
use Rattle.std.proofs.Common.{◌≡◌, ◌≤◌, ℕ, List, sym, subst, ◌∙◌}
use Rattle.object_name.specs.Causes.{TriesAtMost}
use Rattle.blob_store.specs.Store.{Store, Write}
use Rattle.need_eval.specs.declared.fault.EvalFault.{EvalFault}
use Rattle.need_eval.specs.declared.walker.Walker.{Walker}
use Rattle.need_eval.specs.declared.stage.Halt.{Halt}
use Rattle.need_eval.specs.declared.stage.Halt.TheVariants.{AtEnd, AtJob}
use Rattle.need_eval.specs.Walking.{walking, work_of, GoesOn}
use Rattle.need_eval.specs.StepContracts.{StopsReading, kept_in}
use Rattle.need_eval.specs.TurnContracts.{StopsAt, ComesTo}

-- a walker has gone on so far, and nothing was written
pub record HasGone {K : Type 0} (tells : Type 0) (store : K → Store) (writes : K → List Write) (faults calls : K → ℕ) (before after : Walker) (old now : K) : Type 0 where
  pub goes : tells → GoesOn before after (store old)
  pub same : tells → store now ≡ store old
  pub list : tells → writes now ≡ writes old
  pub later : faults old ≤ faults now
  pub tried : tells → TriesAtMost before.retries calls faults old now 0
  pub budget : after.budget ≡ before.budget
  pub retries : after.retries ≡ before.retries
  pub stage : after.stage ≡ before.stage
  pub work : work_of after ≤ work_of before

-- one after the other
pub goes-both : (first then last : Walker) (store now : Store) → now ≡ store → GoesOn first then store → GoesOn then last now → GoesOn first last store
goes-both first then last store now same one two =
    let here : GoesOn then last store = subst (λ (s : Store). GoesOn then last s) same two in
    λ answer writes asked. one answer writes asked ∙ here answer writes asked

-- a stop after that
pub goes-stops : (first then : Walker) (store now : Store) (fault : EvalFault) → now ≡ store → GoesOn first then store → StopsAt then now fault → StopsAt first store fault
goes-stops first then store now fault same one stops =
    let here : StopsAt then store fault = subst (λ (s : Store). StopsAt then s fault) same stops in
    λ answer writes asked. subst (λ e. StopsReading e (kept_in (walking first store writes asked)) fault) (sym (one answer writes asked)) (here answer writes asked)

-- the end of the turns after that
pub goes-comes : (first then last : Walker) (store now : Store) (halt : Halt) → now ≡ store → GoesOn first then store → ComesTo then last now halt → ComesTo first last store halt
goes-comes first then last store now (AtEnd values) same one ends =
    let here : ComesTo then last store (AtEnd values) = subst (λ (s : Store). ComesTo then last s (AtEnd values)) same ends in
    λ answer writes asked. one answer writes asked ∙ here answer writes asked
goes-comes first then last store now (AtJob waiting) same one waits =
    let here : ComesTo then last store (AtJob waiting) = subst (λ (s : Store). ComesTo then last s (AtJob waiting)) same waits in
    ((λ answer writes asked. one answer writes asked ∙ here.0 answer writes asked), here.1)
