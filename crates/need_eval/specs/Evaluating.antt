-- What a whole call of `evaluate` does.
use Rattle.std.specs.Prelude.{ℕ, List, Result, Ok, Err}
use Rattle.std.specs.List.{AllByRecursion}
use Rattle.object_name.specs.Name.{ObjectName}
use Rattle.thunk_codec.specs.declared.reference.Ref.{Ref}
use Rattle.thunk_codec.specs.declared.job.Job.{Job}
use Rattle.thunk_codec.specs.declared.job.Outcome.{Outcome}
use Rattle.blob_store.specs.Store.{Write}
use Rattle.blob_store.specs.Keeping.{Kept}
use Rattle.need_eval.specs.declared.fault.EvalFault.{EvalFault}
use Rattle.need_eval.specs.declared.fault.EvalFault.TheVariants as faults
use Rattle.need_eval.specs.declared.evaluating.Values.{Values}
use Rattle.need_eval.specs.Eval.{State, Refused, Ended, start}
use Rattle.need_eval.specs.Evaluation.{values_of, by_function, by_list}
use Rattle.need_eval.specs.MetObjects.{IsMet, HaveOwnNames}
use Rattle.need_eval.specs.WritePrefix.{state_after, Does, AreAnswers, StopsPartWay, StopsWith, ListsAll, Yields}

-- evaluation with one function, where each job of it is told
abbrev pub EvaluatesAll : (Job → Type 0) → (Job → Outcome) → ℕ → List Ref → Kept → Kept → Result Values EvalFault → Type 0
EvaluatesAll tells outcome budget refs before after result =
    let e = values_of (by_function outcome) budget refs (start before.store) in
    AllByRecursion tells (state_after e).asked → Does before.writes (start before.store) e after result

-- evaluation with some answers that fit the jobs, and are the function's where that is told
pub record EvaluatesSome (tells : Job → Type 0) (outcome : Job → Outcome) (budget : ℕ) (refs : List Ref) (before after : Kept) (result : Result Values EvalFault) : Type 0 where
  pub given : List Outcome
  pub answers : AreAnswers tells outcome (state_after (values_of (by_list given) budget refs (start before.store))).asked given
  pub does : Does before.writes (start before.store) (values_of (by_list given) budget refs (start before.store)) after result

-- a call answers in full what the definition says, or memory was out
abbrev pub AnswersInFull : List Write → State → Ended (List ObjectName) → Kept → Result Values EvalFault → Type 0
AnswersInFull before s e now (Ok values) = Yields values.names values.steps e now.store × ListsAll before e now
AnswersInFull before s e now (Err (faults.Refused refusal)) = StopsWith (Refused refusal) e now.store × ListsAll before e now
AnswersInFull before s e now (Err (faults.Clash name found fresh)) = ⊥
AnswersInFull before s e now (Err faults.StoreFailed) = ⊥
AnswersInFull before s e now (Err faults.RunFailed) = ⊥
AnswersInFull before s e now (Err faults.Memory) = StopsPartWay before s e now

-- evaluation with one function, where each job of it is told and no two objects that it meets have one name
abbrev pub EvaluatesInFull : (Job → Type 0) → (Job → Outcome) → ℕ → List Ref → Kept → Kept → Result Values EvalFault → Type 0
EvaluatesInFull tells outcome budget refs before after result =
    let e = values_of (by_function outcome) budget refs (start before.store) in
    AllByRecursion tells (state_after e).asked → HaveOwnNames (IsMet (by_function outcome) before.store (state_after e).asked) → AnswersInFull before.writes (start before.store) e after result
