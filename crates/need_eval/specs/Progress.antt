-- How far a walk has come with the outcomes of a function, as far as they are told.
use Rattle.std.specs.Prelude.{◌≡◌, ℕ, List, Result}
use Rattle.std.specs.List.{AllByRecursion}
use Rattle.thunk_codec.specs.declared.reference.Ref.{Ref}
use Rattle.thunk_codec.specs.declared.job.Job.{Job}
use Rattle.thunk_codec.specs.declared.job.Outcome.{Outcome}
use Rattle.blob_store.specs.Keeping.{Kept}
use Rattle.need_eval.specs.declared.evaluating.Values.{Values}
use Rattle.need_eval.specs.declared.fault.EvalFault.{EvalFault}
use Rattle.need_eval.specs.declared.walker.Walker.{Walker}
use Rattle.need_eval.specs.Eval.{start}
use Rattle.need_eval.specs.Evaluation.{values_of, by_function}
use Rattle.need_eval.specs.Evaluating.{EvaluatesAll, EvaluatesSome}
use Rattle.need_eval.specs.WritePrefix.{state_after, AreAnswers}
use Rattle.need_eval.specs.Walk.{Answers, IsWalk}

-- the outcomes given so far fit their jobs, and are the function's where that is told, or where all jobs of the evaluation with it are
pub record IsProgress (tells : Job → Type 0) (outcome : Job → Outcome) (budget : ℕ) (refs : List Ref) (first : Kept) (w : Walker) (now : Kept) : Type 0 where
  pub budgets : w.budget ≡ budget
  pub given : List Outcome
  pub walk : IsWalk refs first given w now
  pub answers : AreAnswers tells outcome walk.asked given
  pub exact : AllByRecursion tells (state_after (values_of (by_function outcome) budget refs (start first.store))).asked → Answers (by_function outcome) 0 walk.asked given

-- what a whole evaluation did, where its jobs are told and where they aren't
abbrev pub Evaluates : (Job → Type 0) → (Job → Outcome) → ℕ → List Ref → Kept → Kept → Result Values EvalFault → Type 0
Evaluates tells outcome budget refs before after result =
    EvaluatesAll tells outcome budget refs before after result × EvaluatesSome tells outcome budget refs before after result
