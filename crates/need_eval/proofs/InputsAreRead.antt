-- Going through a list by a piece that only reads.
use Rattle.std.proofs.Common.{◌≡◌, ◌≤◌, ◌<◌, ◌+◌, ℕ, suc, List, [], ◌∷◌, ◌++◌, length, map, take, drop, get_or, sym, ap, subst, ◌∙◌, add-one}
use Rattle.std.proofs.Math.Seq.{drop-cons, drop-length, take-length}
use Rattle.std.proofs.lemmas.List.{map_push, take_more}
use Rattle.object_name.specs.Causes.{TriesAtMost}
use Rattle.thunk_codec.specs.declared.reference.Ref.{Ref}
use Rattle.thunk_codec.specs.Job.{with_length, with_size}
use Rattle.blob_store.specs.Store.{Store, Write}
use Rattle.need_eval.specs.declared.fault.EvalFault.{EvalFault}
use Rattle.need_eval.specs.Eval.{State, Ended, Got, Eval, ◌>>=◌, give, each}
use Rattle.need_eval.specs.Evaluation.{input_object}
use Rattle.need_eval.specs.StepContracts.{StopsReading, kept_in}
use Rattle.need_eval.proofs.EachGoesOn.{IsLeft, IsLeft-start, IsLeft-more, IsLeft-end}
use Rattle.need_eval.proofs.ReadingStops.{StopsReading-go_on}

-- the first of some are read, and what is left is to read the others
abbrev pub AreLeft : {A B : Type 0} → (A → Eval B) → List A → List B → ℕ → State → Type 0
AreLeft f xs read i s = IsLeft f (each f xs s) read (drop i xs) s

-- the keeper has what it had, and the first of some inputs are read: their objects are as long as their names say
pub record HasRead {K : Type 0} (tells : Type 0) (store : K → Store) (writes : K → List Write) (faults calls : K → ℕ) (retries : ℕ) (inputs : List (List ℕ × Ref)) (old now : K) (i : ℕ) (read : List (List ℕ × List ℕ)) : Type 0 where
  pub same : tells → store now ≡ store old
  pub list : tells → writes now ≡ writes old
  pub later : faults old ≤ faults now
  pub tried : tells → TriesAtMost retries calls faults old now 0
  pub left : tells → (s : State) → s.store ≡ store old → AreLeft input_object inputs read i s
  pub sized : map with_length read ≡ map with_size (take i inputs)

-- one more is as long as its name says
pub sized-more : (inputs : List (List ℕ × Ref)) (read : List (List ℕ × List ℕ)) (i : ℕ) (input : List ℕ × Ref) (one : List ℕ × List ℕ) → i < length inputs → input ≡ get_or inputs i input → with_length one ≡ with_size input
    → map with_length read ≡ map with_size (take i inputs) → map with_length (read ++ one ∷ []) ≡ map with_size (take (i + 1) inputs)
sized-more inputs read i input one within is same so_far =
    map_push with_length read one
    ∙ (λ j. so_far j ++ same j ∷ [])
    ∙ sym (map_push with_size (take i inputs) input)
    ∙ ap (map with_size) (ap (λ (next : List ℕ × Ref). take i inputs ++ next ∷ []) is ∙ sym (take_more inputs i input within))

-- all are as long as their names say
pub sized-end : (inputs : List (List ℕ × Ref)) (read : List (List ℕ × List ℕ)) (i : ℕ) → i ≡ length inputs → map with_length read ≡ map with_size (take i inputs) → map with_length read ≡ map with_size inputs
sized-end inputs read i all so_far = so_far ∙ ap (λ j. map with_size (take j inputs)) all ∙ ap (map with_size) (take-length inputs)

module _ {A B : Type 0} (f : A → Eval B) (xs : List A) where
  pub AreLeft-start : (s : State) → AreLeft f xs [] 0 s
  AreLeft-start s = IsLeft-start f xs s

  module _ (read : List B) (i : ℕ) (x : A) (s : State) (within : i < length xs) (is : x ≡ get_or xs i x) where
    -- the next stands first in what is left
    AreLeft-next : AreLeft f xs read i s → IsLeft f (each f xs s) read (x ∷ drop (suc i) xs) s
    AreLeft-next left =
        subst (λ (xs' : List A). IsLeft f (each f xs s) read xs' s)
        (drop-cons xs i x within ∙ ap (λ (x : A). x ∷ drop (suc i) xs) (sym is)) left

    -- one more is read
    pub AreLeft-more : (y : B) → f x s ≡ Got y s → AreLeft f xs read i s → AreLeft f xs (read ++ y ∷ []) (i + 1) s
    AreLeft-more y one left =
        subst (λ (j : ℕ). IsLeft f (each f xs s) (read ++ y ∷ []) (drop j xs) s) (sym (add-one i))
        (IsLeft-more f (each f xs s) read x (drop (suc i) xs) y s s one (AreLeft-next left))

    -- the next one stops the whole
    pub AreLeft-stop : (fault : EvalFault) → StopsReading (f x s) (kept_in s) fault → AreLeft f xs read i s → StopsReading (each f xs s) (kept_in s) fault
    AreLeft-stop fault stops left =
        subst (λ (e : Ended (List B)). StopsReading e (kept_in s) fault) (sym (AreLeft-next left))
        (StopsReading-go_on (λ ys. give (read ++ ys)) (each f (x ∷ drop (suc i) xs) s) (kept_in s) fault
        (StopsReading-go_on (λ y. each f (drop (suc i) xs) >>= λ ys. give (y ∷ ys)) (f x s) (kept_in s) fault stops))

  -- all are read
  pub AreLeft-end : (read : List B) (i : ℕ) (s : State) → i ≡ length xs → AreLeft f xs read i s → each f xs s ≡ Got read s
  AreLeft-end read i s all left =
      IsLeft-end f (each f xs s) read s
      (subst (λ (xs' : List A). IsLeft f (each f xs s) read xs' s) (ap (λ j. drop j xs) all ∙ drop-length xs) left)
