-- The value of a reference stands on those of the references that are met on the way, each with a step less: so the budget is
-- enough, and what was met with one step less is met with all of them.
use Rattle.std.proofs.Common.{◌≡◌, ◌≤◌, ◌<◌, ◌+◌, ℕ, zero, suc, List, [], ◌∷◌, Bool, true, false, Option, Some, None, length, refl, ap, ◌∙◌, arith}
use Rattle.std.specs.Prelude.{nat_lt, slice_get}
use Rattle.std.proofs.lemmas.Bool.{ltb-true}
use Rattle.object_name.specs.declared.kind.Kind.{Kind}
use Rattle.object_name.specs.declared.kind.Kind.TheVariants as kinds
use Rattle.object_name.specs.Name.{ObjectName}
use Rattle.thunk_codec.specs.declared.reference.Ref.{Ref}
use Rattle.thunk_codec.specs.declared.reference.Ref.TheVariants.{Value, Out}
use Rattle.thunk_codec.specs.declared.job.Job.{Job}
use Rattle.thunk_codec.specs.declared.job.Outcome.{Outcome}
use Rattle.thunk_codec.specs.Resolved.{refs_of, resolved_by}
use Rattle.blob_store.specs.Store.{Write}
use Rattle.need_eval.specs.declared.fault.Refusal.TheVariants.{NoOutput, Spent}
use Rattle.need_eval.specs.Eval.{State, Stop, Refused, Stands, Ended, Got, Stopped, Eval, ◌>>=◌, go_on, give, check, need, each, step, make_write, note_asked, mark}
use Rattle.need_eval.specs.Evaluation.{thunk_at, ask, reduce, count_step, entered, outputs_at, output_of, passed, value_by, beyond, value_within, value_of}
use Rattle.need_eval.specs.WritePrefix.{state_after}
use Rattle.need_eval.proofs.KeptRelations.{Keeps, IsKept, IsMade, keeps-go_on, keeps-need, keeps-check, keeps-thunk_at, keeps-output_of, keeps-value_by}

-- no fewer steps were used
abbrev Later : State → State → Type 0
Later s t = s.steps ≤ t.steps

Later-kept : IsKept Later
Later-kept = record { same = λ s. omega arith; both = λ s t u first then. omega (arith, first, then) }

Later-step : (budget : ℕ) (s : State) → s.steps < budget → Later s (state_after (step s))
Later-step budget s below = omega arith

Later-write : (write : Write) (s : State) → IsMade s.store write → Later s (state_after (make_write write s))
Later-write write s made = omega arith

Later-mark : (name : ObjectName) (outputs : List ObjectName) (s : State) → Later s (state_after (mark name outputs s))
Later-mark name outputs s = omega arith

Later-ask : (answer : ℕ → Job → Option Outcome) (text : List ℕ) (job : Job) → Keeps Later (ask answer text job)
Later-ask answer text job s =
    keeps-go_on Later Later-kept s (need (answer (length s.asked) job) (Stands text job) s) (λ outcome. note_asked job >>= λ _. give outcome)
    (keeps-need Later Later-kept (answer (length s.asked) job) (Stands text job) s)
    (λ outcome u. omega arith)

-- what follows is the same where it is the same after so many steps
go_on-same : {A B : Type 0} (low : ℕ) (e : Ended A) (h k : A → Eval B) → low ≤ (state_after e).steps → ((x : A) (t : State) → low ≤ t.steps → h x t ≡ k x t) → go_on e h ≡ go_on e k
go_on-same low (Got x t) h k later all = all x t later
go_on-same low (Stopped why t) h k later all = refl

module _ (answer : ℕ → Job → Option Outcome) (budget : ℕ) where
  -- where something is given, a step was taken after so many, and was within the budget
  abbrev Counted : {A : Type 0} → ℕ → Ended A → Type 0
  Counted low (Got x t) = (low < t.steps) × (low < budget)
  Counted low (Stopped why t) = Unit {0}

  Counted-after : {A B : Type 0} (low : ℕ) (e : Ended A) (f : A → Eval B) → low ≤ (state_after e).steps → ((x : A) (t : State) → low ≤ t.steps → Counted low (f x t)) → Counted low (go_on e f)
  Counted-after low (Got x t) f later all = all x t later
  Counted-after low (Stopped why t) f later all = tt

  Counted-before : {A B : Type 0} (low : ℕ) (e : Ended A) (y : B) → Counted low e → Counted low (go_on e (λ _. give y))
  Counted-before low (Got x t) y h = h
  Counted-before low (Stopped why t) y h = tt

  counted_by : (low : ℕ) (why : Stop) (s : State) (test : Bool) → low ≤ s.steps → nat_lt s.steps budget ≡ test → Counted low (go_on (check test why s) (λ _. step))
  counted_by low why s true later is = let below = ltb-true s.steps budget is in (omega (arith, later), omega (arith, later, below))
  counted_by low why s false later is = tt

  count-counted : (low : ℕ) (name : ObjectName) (s : State) → low ≤ s.steps → Counted low (count_step budget name s)
  count-counted low name s later = counted_by low (Refused (Spent name budget)) s (nat_lt s.steps budget) later refl

  later-thunk_at : (low : ℕ) (name : ObjectName) (s : State) → low ≤ s.steps → low ≤ (state_after (thunk_at name s)).steps
  later-thunk_at low name s later = let more = keeps-thunk_at Later Later-kept name s in omega (arith, later, more)

  later-check : (low : ℕ) (test : Bool) (why : Stop) (s : State) → low ≤ s.steps → low ≤ (state_after (check test why s)).steps
  later-check low test why s later = let more = keeps-check Later Later-kept test why s in omega (arith, later, more)

  entered-counted : (low : ℕ) (name : ObjectName) (index : ℕ) (s : State) → low ≤ s.steps → Counted low (entered budget name index s)
  entered-counted low name index s later =
      Counted-after low (thunk_at name s) _ (later-thunk_at low name s later)
      (λ t u more. Counted-after low (check (nat_lt index (length t.outputs)) (Refused (NoOutput name index)) u) _
      (later-check low (nat_lt index (length t.outputs)) (Refused (NoOutput name index)) u more)
      (λ _ v most. Counted-before low (count_step budget name v) t (count-counted low name v most)))

  -- what follows a step is the same where it is the same after a step
  counted-same : {A B : Type 0} (low : ℕ) (e : Ended A) (h k : A → Eval B) → Counted low e → ((x : A) (t : State) → low < t.steps → low < budget → h x t ≡ k x t) → go_on e h ≡ go_on e k
  counted-same low (Got x t) h k counted all = all x t counted.0 counted.1
  counted-same low (Stopped why t) h k counted all = refl

  -- two ways to the values of those that are met on the way, which are the same after a step more
  module _ (f g : Ref → Eval ObjectName) (low : ℕ) (is_strictly_increasing : (r : Ref) → Keeps Later (f r)) (same : (r : Ref) (t : State) → low < t.steps → low < budget → f r t ≡ g r t) where
    each-same : (refs : List Ref) (s : State) → low < s.steps → low < budget → each f refs s ≡ each g refs s
    each-same [] s above below = refl
    each-same (r ∷ refs) s above below =
        go_on-same (suc low) (f r s) (λ y. each f refs >>= λ ys. give (y ∷ ys)) (λ y. each g refs >>= λ ys. give (y ∷ ys))
        (let more = is_strictly_increasing r s in omega (arith, above, more))
        (λ y t later. ap (λ e. go_on e (λ ys. give (y ∷ ys))) (each-same refs t (omega (arith, later)) below))
        ∙ ap (λ e. go_on e (λ y. each g refs >>= λ ys. give (y ∷ ys))) (same r s above below)

    outputs_at-same : (name : ObjectName) (index : ℕ) (known : Option (List ObjectName)) (s : State) → low ≤ s.steps → outputs_at answer budget f name index known s ≡ outputs_at answer budget g name index known s
    outputs_at-same name index (Some outputs) s later = refl
    outputs_at-same name index None s later =
        counted-same low (entered budget name index s) (λ t. each f (refs_of t) >>= λ values. reduce answer name (resolved_by t values)) (λ t. each g (refs_of t) >>= λ values. reduce answer name (resolved_by t values))
        (entered-counted low name index s later)
        (λ t u above below. ap (λ e. go_on e (λ values. reduce answer name (resolved_by t values))) (each-same (refs_of t) u above below))

    passed-same : (kind : Kind) (output : ObjectName) (s : State) → low ≤ s.steps → passed answer budget f kind output s ≡ passed answer budget g kind output s
    passed-same kinds.Value output s later = refl
    passed-same kinds.Thunk output s later =
        counted-same low (count_step budget output s) (λ _. f (Out output 0)) (λ _. g (Out output 0)) (count-counted low output s later)
        (λ _ t above below. same (Out output 0) t above below)

    value_by-same : (r : Ref) (s : State) → low ≤ s.steps → value_by answer budget f r s ≡ value_by answer budget g r s
    value_by-same (Value name) s later = refl
    value_by-same (Out name index) s later =
        go_on-same low (output_of answer budget f name index s) (λ output. passed answer budget f output.kind output) (λ output. passed answer budget g output.kind output)
        (let more = keeps-output_of Later Later-kept Later-write Later-mark answer (Later-ask answer) budget (Later-step budget) f is_strictly_increasing name index s in omega (arith, later, more))
        (λ output t more. passed-same output.kind output t more)
        ∙ ap (λ e. go_on (go_on e (λ outputs. need (slice_get outputs index) (Refused (NoOutput name index)))) (λ output. passed answer budget g output.kind output)) (outputs_at-same name index (s.reduced name) s later)

  within-is_strictly_increasing : (left : ℕ) (r : Ref) → Keeps Later (value_within answer budget left r)
  unfolding value_within
  within-is_strictly_increasing zero = keeps-value_by Later Later-kept Later-write Later-mark answer (Later-ask answer) budget (Later-step budget) (beyond answer budget) (λ r s. omega arith)
  within-is_strictly_increasing (suc left) = keeps-value_by Later Later-kept Later-write Later-mark answer (Later-ask answer) budget (Later-step budget) (value_within answer budget left) (within-is_strictly_increasing left)

  -- where no more steps are left than these, one more changes nothing
  within-more : (left : ℕ) (r : Ref) (s : State) → budget ≤ s.steps + left → value_within answer budget left r s ≡ value_within answer budget (suc left) r s
  unfolding value_within
  within-more zero r s enough =
      value_by-same (beyond answer budget) (value_within answer budget zero) s.steps (λ r t. omega arith)
      (λ r t above below. absurd (omega (arith, enough, below))) r s (omega arith)
  within-more (suc left) r s enough =
      value_by-same (value_within answer budget left) (value_within answer budget (suc left)) s.steps (within-is_strictly_increasing left)
      (λ r t above below. within-more left r t (omega (arith, enough, above))) r s (omega arith)

  -- the value of a reference, by the values of references
  pub value_of-is : (r : Ref) (s : State) → value_of answer budget r s ≡ value_by answer budget (value_of answer budget) r s
  unfolding value_of value_within
  value_of-is r s = within-more budget r s (omega arith)
