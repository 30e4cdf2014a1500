-- A whole walk: an evaluation that was begun, went on and was supplied with outcomes.
use Rattle.std.specs.Prelude.{◌≡◌, ℕ, suc, List, [], ◌∷◌, ◌++◌, length, Option, Some}
use Rattle.thunk_codec.specs.declared.reference.Ref.{Ref}
use Rattle.thunk_codec.specs.declared.job.Job.{Job}
use Rattle.thunk_codec.specs.declared.job.Outcome.{Outcome}
use Rattle.blob_store.specs.Keeping.{Kept}
use Rattle.blob_store.specs.Store.{Write, written}
use Rattle.need_eval.specs.declared.walker.Walker.{Walker}
use Rattle.need_eval.specs.Eval.{start}
use Rattle.need_eval.specs.Evaluation.{values_of}
use Rattle.need_eval.specs.Walking.{walking, left}

-- these are the answers to these jobs, from this place on
abbrev pub Answers : (ℕ → Job → Option Outcome) → ℕ → List Job → List Outcome → Type 0
Answers answer place [] [] = Unit {0}
Answers answer place [] (outcome ∷ given) = ⊥
Answers answer place (job ∷ asked) [] = ⊥
Answers answer place (job ∷ asked) (outcome ∷ given) = (answer place job ≡ Some outcome) × Answers answer (suc place) asked given

-- with outcomes that were given for the jobs asked for so far, a walker has come so far in the evaluation of some references
-- from a store, whatever outcomes come later; each of its writes so far was put once
pub record IsWalk (refs : List Ref) (first : Kept) (given : List Outcome) (w : Walker) (now : Kept) : Type 0 where
  pub writes : List Write
  pub asked : List Job
  pub put : now.store ≡ written first.store writes
  pub list : now.writes ≡ first.writes ++ writes
  pub number : length asked ≡ length given
  pub same : (answer : ℕ → Job → Option Outcome) → Answers answer 0 asked given →
      values_of answer w.budget refs (start first.store) ≡ left answer w (walking w now.store writes asked)
