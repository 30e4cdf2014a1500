-- No clash comes where each object that is met has a name of its own, and then a call that no fault disturbs answers in full.
use Rattle.std.proofs.Common.{◌≡◌, inr, ℕ, List, Option, Ok, Err, sym, subst, ◌∙◌}
use Rattle.std.specs.Prelude.{Result}
use Rattle.object_name.specs.Name.{ObjectName}
use Rattle.object_name.specs.Causes.{Rose, RoseBy}
use Rattle.thunk_codec.specs.declared.reference.Ref.{Ref}
use Rattle.thunk_codec.specs.declared.job.Job.{Job}
use Rattle.thunk_codec.specs.declared.job.Outcome.{Outcome}
use Rattle.blob_store.specs.Keeping.{Kept}
use Rattle.blob_store.specs.Store.{Store}
use Rattle.need_eval.specs.declared.evaluating.Values.{Values}
use Rattle.need_eval.specs.declared.fault.EvalFault.{EvalFault}
use Rattle.need_eval.specs.declared.fault.EvalFault.TheVariants as faults
use Rattle.need_eval.specs.Eval.{State, Clash, Ended, Stopped, start}
use Rattle.need_eval.specs.Evaluation.{values_of, by_function}
use Rattle.need_eval.specs.WritePrefix.{state_after, Does, EvalCause}
use Rattle.need_eval.specs.Evaluating.{AnswersInFull, EvaluatesAll, EvaluatesInFull}
use Rattle.need_eval.specs.MetObjects.{IsMet, HaveOwnNames}
use Rattle.need_eval.proofs.ValuesAreHeld.{stop-shows}

module _ (answer : ℕ → Job → Option Outcome) (budget : ℕ) (refs : List Ref) (first : Store) where
  abbrev HasOwnNames : Type 0
  HasOwnNames = HaveOwnNames (IsMet answer first (state_after (values_of answer budget refs (start first))).asked)

  pub no-clash : (name : ObjectName) (found fresh : List ℕ) (last : State) → HasOwnNames → values_of answer budget refs (start first) ≡ Stopped (Clash name found fresh) last → ⊥
  no-clash name found fresh last own is =
      let clash = stop-shows answer budget refs first (Clash name found fresh) last is in
      let here : HaveOwnNames (IsMet answer first last.asked) = subst (λ (e : Ended (List ObjectName)). HaveOwnNames (IsMet answer first (state_after e).asked)) is own in
      clash.two.differ (here found fresh clash.held (inr clash.output) (clash.two.first ∙ sym clash.two.second))

pub undisturbed : (answer : ℕ → Job → Option Outcome) (budget : ℕ) (refs : List Ref) (first : Kept) (retries kept_before kept_after run_before run_after : ℕ) (now : Kept) (result : Result Values EvalFault) → HasOwnNames answer budget refs first.store →
    (RoseBy retries kept_before kept_after → ⊥) → (Rose run_before run_after → ⊥) → EvalCause retries kept_before kept_after run_before run_after result →
    Does first.writes (start first.store) (values_of answer budget refs (start first.store)) now result → AnswersInFull first.writes (start first.store) (values_of answer budget refs (start first.store)) now result
undisturbed answer budget refs first retries kept_before kept_after run_before run_after now (Ok values) own kept run cause does = does
undisturbed answer budget refs first retries kept_before kept_after run_before run_after now (Err (faults.Refused refusal)) own kept run cause does = does
undisturbed answer budget refs first retries kept_before kept_after run_before run_after now (Err (faults.Clash name found fresh)) own kept run cause does = no-clash answer budget refs first.store name found fresh does.0.last own does.0.stopped
undisturbed answer budget refs first retries kept_before kept_after run_before run_after now (Err faults.StoreFailed) own kept run cause does = kept cause
undisturbed answer budget refs first retries kept_before kept_after run_before run_after now (Err faults.RunFailed) own kept run cause does = run cause
undisturbed answer budget refs first retries kept_before kept_after run_before run_after now (Err faults.Memory) own kept run cause does = does

-- the same of a call of `evaluate`, by two of its clauses
pub evaluates-in_full : (tells : Job → Type 0) (outcome : Job → Outcome) (budget retries : ℕ) (refs : List Ref) (first now : Kept) (kept_before kept_after run_before run_after : ℕ) (result : Result Values EvalFault) →
    EvaluatesAll tells outcome budget refs first now result → EvalCause retries kept_before kept_after run_before run_after result →
    (RoseBy retries kept_before kept_after → ⊥) → (Rose run_before run_after → ⊥) → EvaluatesInFull tells outcome budget refs first now result
evaluates-in_full tells outcome budget retries refs first now kept_before kept_after run_before run_after result does cause kept run told own =
    undisturbed (by_function outcome) budget refs first retries kept_before kept_after run_before run_after now result own kept run cause (does told)
