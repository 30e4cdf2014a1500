-- Evaluations of references give names of values.
use Rattle.std.proofs.Common.{◌≡◌, ℕ, zero, suc, List, [], ◌∷◌, Option, refl, subst}
use Rattle.std.specs.List.{AllByRecursion}
use Rattle.object_name.specs.declared.kind.Kind.{Kind}
use Rattle.object_name.specs.declared.kind.Kind.TheVariants as kinds
use Rattle.object_name.specs.Name.{ObjectName}
use Rattle.thunk_codec.specs.declared.reference.Ref.{Ref}
use Rattle.thunk_codec.specs.declared.reference.Ref.TheVariants.{Value, Out}
use Rattle.thunk_codec.specs.declared.job.Job.{Job}
use Rattle.thunk_codec.specs.declared.job.Outcome.{Outcome}
use Rattle.thunk_codec.specs.Reference.{IsRef}
use Rattle.thunk_codec.specs.Resolved.{HaveValueKind}
use Rattle.need_eval.specs.Eval.{State, Ended, Got, Stopped, Eval, ◌>>=◌, go_on, give, each}
use Rattle.need_eval.specs.Evaluation.{object, count_step, output_of, passed, value_by, beyond, value_within, value_of, values_of}

-- where something is given, this holds of it
abbrev HoldsOfGot : {A : Type 0} → (A → Type 0) → Ended A → Type 0
HoldsOfGot P (Got x s) = P x
HoldsOfGot P (Stopped why s) = Unit {0}

gives-after : {A B : Type 0} (P : B → Type 0) (e : Ended A) (f : A → Eval B) → ((x : A) (s : State) → HoldsOfGot P (f x s)) → HoldsOfGot P (go_on e f)
gives-after P (Got x s) f all = all x s
gives-after P (Stopped why s) f all = tt

gives-next : {A B : Type 0} (P : A → Type 0) (Q : B → Type 0) (e : Ended A) (f : A → Eval B) → HoldsOfGot P e → ((x : A) (s : State) → P x → HoldsOfGot Q (f x s)) → HoldsOfGot Q (go_on e f)
gives-next P Q (Got x s) f first all = all x s first
gives-next P Q (Stopped why s) f first all = tt

-- a name of a value
abbrev OfValue : ObjectName → Type 0
OfValue name = name.kind ≡ kinds.Value

-- a reference to an output, or to a value by a name of one
abbrev ToValue : Ref → Type 0
ToValue (Value name) = OfValue name
ToValue (Out name index) = Unit {0}

to_value : (r : Ref) → IsRef r → ToValue r
to_value (Value name) is = is.1
to_value (Out name index) is = tt

module _ (answer : ℕ → Job → Option Outcome) (budget : ℕ) where
  module _ (deeper : Ref → Eval ObjectName) (deep : (r : Ref) (s : State) → ToValue r → HoldsOfGot OfValue (deeper r s)) where
    passed-gives : (kind : Kind) (output : ObjectName) (s : State) → output.kind ≡ kind → HoldsOfGot OfValue (passed answer budget deeper kind output s)
    passed-gives kinds.Value output s is = is
    passed-gives kinds.Thunk output s is = gives-after OfValue (count_step budget output s) (λ _. deeper (Out output 0)) (λ _ t. deep (Out output 0) t tt)

    value_by-gives : (r : Ref) (s : State) → ToValue r → HoldsOfGot OfValue (value_by answer budget deeper r s)
    value_by-gives (Value name) s is = gives-after OfValue (object name s) (λ _. give name) (λ _ t. is)
    value_by-gives (Out name index) s is =
        gives-after OfValue (output_of answer budget deeper name index s) (λ output. passed answer budget deeper output.kind output)
        (λ output t. passed-gives output.kind output t refl)

  within-gives : (left : ℕ) (r : Ref) (s : State) → ToValue r → HoldsOfGot OfValue (value_within answer budget left r s)
  unfolding value_within
  within-gives zero = value_by-gives (beyond answer budget) (λ r s is. tt)
  within-gives (suc left) = value_by-gives (value_within answer budget left) (within-gives left)

  value_of-gives : (r : Ref) (s : State) → ToValue r → HoldsOfGot OfValue (value_of answer budget r s)
  unfolding value_of
  value_of-gives = within-gives budget

  each-gives : (refs : List Ref) (s : State) → AllByRecursion IsRef refs → HoldsOfGot HaveValueKind (values_of answer budget refs s)
  each-gives [] s all = tt
  each-gives (r ∷ refs) s all =
      gives-next OfValue HaveValueKind (value_of answer budget r s) (λ y. each (value_of answer budget) refs >>= λ ys. give (y ∷ ys))
      (value_of-gives r s (to_value r all.0))
      (λ y t first. gives-next HaveValueKind HaveValueKind (each (value_of answer budget) refs t) (λ ys. give (y ∷ ys))
      (each-gives refs t all.1) (λ ys u others. (first, others)))

pub values-given : (answer : ℕ → Job → Option Outcome) (budget : ℕ) (refs : List Ref) (s : State) (names : List ObjectName) (t : State) →
    AllByRecursion IsRef refs → values_of answer budget refs s ≡ Got names t → HaveValueKind names
values-given answer budget refs s names t all is = subst (HoldsOfGot HaveValueKind) is (each-gives answer budget refs s all)
