-- The steps that an evaluation uses: no fewer than before, and no more than the budget.
use Rattle.std.proofs.Common.{◌≤◌, ◌<◌, ℕ, List, Option, length, arith}
use Rattle.thunk_codec.specs.declared.reference.Ref.{Ref}
use Rattle.thunk_codec.specs.declared.job.Job.{Job}
use Rattle.thunk_codec.specs.declared.job.Outcome.{Outcome}
use Rattle.need_eval.specs.Eval.{State, Stands, ◌>>=◌, give, need, step, note_asked}
use Rattle.need_eval.specs.Evaluation.{ask, values_of}
use Rattle.need_eval.specs.WritePrefix.{state_after}
use Rattle.need_eval.proofs.KeptRelations.{Keeps, IsKept, keeps-go_on, keeps-need, keeps-values_of}

-- no fewer steps were used, and no more than the budget where it wasn't spent before
abbrev Counts : ℕ → State → State → Type 0
Counts budget s t = (s.steps ≤ t.steps) × (s.steps ≤ budget → t.steps ≤ budget)

Counts-kept : (budget : ℕ) → IsKept (Counts budget)
Counts-kept budget = record {
  same = λ s. (omega arith, λ within. within);
  both = λ s t u first then. (omega (arith, first.0, then.0), λ within. then.1 (first.1 within));
}

-- where the steps stay
Counts-stay : (budget steps : ℕ) → (steps ≤ steps) × (steps ≤ budget → steps ≤ budget)
Counts-stay budget steps = (omega arith, λ within. within)

Counts-step : (budget : ℕ) (s : State) → s.steps < budget → Counts budget s (state_after (step s))
Counts-step budget s below = (omega arith, λ within. omega (arith, below))

Counts-ask : (budget : ℕ) (answer : ℕ → Job → Option Outcome) (text : List ℕ) (job : Job) → Keeps (Counts budget) (ask answer text job)
Counts-ask budget answer text job s =
    keeps-go_on (Counts budget) (Counts-kept budget) s (need (answer (length s.asked) job) (Stands text job) s) (λ outcome. note_asked job >>= λ _. give outcome)
    (keeps-need (Counts budget) (Counts-kept budget) (answer (length s.asked) job) (Stands text job) s)
    (λ outcome u. Counts-stay budget u.steps)

values_of-counts : (answer : ℕ → Job → Option Outcome) (budget : ℕ) (refs : List Ref) → Keeps (Counts budget) (values_of answer budget refs)
values_of-counts answer budget =
    keeps-values_of (Counts budget) (Counts-kept budget) (λ write s is_made. Counts-stay budget s.steps) (λ name outputs s. Counts-stay budget s.steps)
    answer (Counts-ask budget answer) budget (Counts-step budget)

pub steps-grow : (answer : ℕ → Job → Option Outcome) (budget : ℕ) (refs : List Ref) (s : State) → s.steps ≤ (state_after (values_of answer budget refs s)).steps
steps-grow answer budget refs s = (values_of-counts answer budget refs s).0

pub steps-within : (answer : ℕ → Job → Option Outcome) (budget : ℕ) (refs : List Ref) (s : State) → s.steps ≤ budget → (state_after (values_of answer budget refs s)).steps ≤ budget
steps-within answer budget refs s = (values_of-counts answer budget refs s).1
