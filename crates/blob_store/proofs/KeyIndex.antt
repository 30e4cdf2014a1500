-- A finite map as a list of pairs in any order, and the place of a key in it.
use Rattle.std.proofs.Common.{◌≡◌, ℕ, zero, suc, ◌+◌, ◌<◌, Bool, true, false, cond, List, [], ◌∷◌, ◌++◌, length, get_or, Option, Some, None, refl, sym, ap, subst, ◌∙◌, arith}
use Rattle.std.specs.Prelude.{position, slice_set, is_some}
use Rattle.std.proofs.lemmas.List.{length-append}
use Rattle.std.proofs.Math.ListN.{length-set}
use Rattle.std.specs.Cmp.{IsTotalOrder}
use Rattle.std.specs.FinMap as map
use Rattle.std.specs.FinMap.{IsAntisymmetric, find, get-insert, get-from_entries, len-insert, same_map, from_entries_push}
use Rattle.std.specs.Ordering.{eq_by_cmp}
use Rattle.std.specs.declared.cmp.Ordering.{Ordering}
use Rattle.std.proofs.lemmas.List.Quantifiers.{position-Some}
use Rattle.std.proofs.lemmas.Iterator.Adapters.{position_from-zero}
use Rattle.std.specs.List.{position_from}
use Rattle.std.proofs.lemmas.Cmp.{eq_by_cmp_equiv}
use Rattle.std.proofs.lemmas.Map.Views.{tells_apart}

-- a choice whose answer is none
none_chosen : {A : Type 0} (b : Bool) (x : A) (o : Option A) → cond b (Some x) o ≡ None → (b ≡ false) × (o ≡ None)
none_chosen true x o e = cc e
none_chosen false x o e = (refl, e)

module _ {K X : Type 0} (R : K → K → Ordering) where
  -- the test of the pairs of a key
  abbrev at_key : K → K × X → Bool
  at_key k = λ pair. eq_by_cmp R k pair.0

  find_none_from : (k : K) (i : ℕ) (es : List (K × X)) → position_from (at_key k) i es ≡ None → find R k es ≡ None
  find_none_from k i [] e = refl
  find_none_from k i (p ∷ es) e =
      let parts = none_chosen (at_key k p) i (position_from (at_key k) (i + 1) es) e in
      ap (λ (b : Bool). cond b (Some p.1) (find R k es)) parts.0 ∙ find_none_from k (i + 1) es parts.1

  -- where a key has no place, it has no value
  pub find-no_place : (k : K) (es : List (K × X)) → position (at_key k) es ≡ None → find R k es ≡ None
  find-no_place k es e = find_none_from k 0 es (sym (position_from-zero (at_key k) es) ∙ e)

  find_here : (k : K) (es : List (K × X)) (i : ℕ) (d : K × X) → i < length es → at_key k (get_or es i d) ≡ true → ((j : ℕ) → j < i → at_key k (get_or es j d) ≡ false)
      → find R k es ≡ Some (get_or es i d).1
  find_here k [] i d lt here before = absurd (omega arith)
  find_here k (p ∷ es) zero d lt here before = ap (λ (b : Bool). cond b (Some p.1) (find R k es)) here
  find_here k (p ∷ es) (suc i) d lt here before =
      ap (λ (b : Bool). cond b (Some p.1) (find R k es)) (before 0 (omega arith))
      ∙ find_here k es i d (omega arith) here (λ j below. before (suc j) (omega arith))

  -- where a key has a place, it has the value there
  pub find-place : (k : K) (es : List (K × X)) (i : ℕ) (d : K × X) → position (at_key k) es ≡ Some i → find R k es ≡ Some (get_or es i d).1
  find-place k es i d e = let place = position-Some (at_key k) es i d e in find_here k es i d place.0 place.1 place.2

module _ {K X : Type 0} {R : K → K → Ordering} (o : IsTotalOrder R) (same : IsAntisymmetric R) where
  -- a choice by a test that is repeated
  chosen_first : (b : Bool) (x y : Option X) (z : Option X) → cond b x z ≡ cond b x (cond b y z)
  chosen_first true x y z = refl
  chosen_first false x y z = refl

  -- two choices by tests that do not both hold may be made in either order
  either_first : (a b : Bool) (x y z : Option X) → (a ≡ true → b ≡ true → ⊥) → cond a x (cond b y z) ≡ cond b y (cond a x z)
  either_first true true x y z apart = absurd (apart refl refl)
  either_first true false x y z apart = refl
  either_first false b x y z apart = refl

  find_written : (q k : K) (v : X) (es : List (K × X)) (i : ℕ) (d : K × X) → i < length es → eq_by_cmp R k (get_or es i d).0 ≡ true → ((j : ℕ) → j < i → eq_by_cmp R k (get_or es j d).0 ≡ false)
      → find R q (slice_set es i (k, v)) ≡ cond (eq_by_cmp R q k) (Some v) (find R q es)
  find_written q k v [] i d lt here before = absurd (omega arith)
  find_written q k v (p ∷ es) zero d lt here before =
      chosen_first (eq_by_cmp R q k) (Some v) (Some p.1) (find R q es)
      ∙ ap (λ (x : K). cond (eq_by_cmp R q k) (Some v) (cond (eq_by_cmp R q x) (Some p.1) (find R q es))) (tells_apart same k p.0 here)
  find_written q k v (p ∷ es) (suc i) d lt here before =
      let differ : eq_by_cmp R q p.0 ≡ true → eq_by_cmp R q k ≡ true → ⊥ = λ a b.
      let e : k ≡ p.0 = sym (tells_apart same q k b) ∙ tells_apart same q p.0 a in
      let tied : eq_by_cmp R k p.0 ≡ true = subst (λ (x : K). eq_by_cmp R k x ≡ true) e ((eq_by_cmp_equiv o).refl k) in
      cc (sym tied ∙ before 0 (omega arith))
      in
      ap (cond (eq_by_cmp R q p.0) (Some p.1)) (find_written q k v es i d (omega arith) here (λ j below. before (suc j) (omega arith)))
      ∙ either_first (eq_by_cmp R q p.0) (eq_by_cmp R q k) (Some p.1) (Some v) (find R q es) differ

  -- the value of a key that has no place
  pub get-no_place : (k : K) (es : List (K × X)) → position (λ (pair : K × X). eq_by_cmp R k pair.0) es ≡ None → map.get (map.from_entries {R = R} es) k ≡ None
  get-no_place k es e = get-from_entries o es k ∙ find-no_place R k es e

  -- the value of a key that has a place
  pub get-place : (k : K) (es : List (K × X)) (i : ℕ) (d : K × X) → position (λ (pair : K × X). eq_by_cmp R k pair.0) es ≡ Some i → map.get (map.from_entries {R = R} es) k ≡ Some (get_or es i d).1
  get-place k es i d e = get-from_entries o es k ∙ find-place R k es i d e

  -- to write a pair at its key's place is to insert it
  pub insert-place : (k : K) (v : X) (es : List (K × X)) (i : ℕ) (d : K × X) → position (λ (pair : K × X). eq_by_cmp R k pair.0) es ≡ Some i
      → map.from_entries {R = R} (slice_set es i (k, v)) ≡ map.insert (map.from_entries es) k v
  insert-place k v es i d e =
      let place = position-Some (λ (pair : K × X). eq_by_cmp R k pair.0) es i d e in
      same_map o same _ _ (λ q.
      get-from_entries o (slice_set es i (k, v)) q ∙ find_written q k v es i d place.0 place.1 place.2
      ∙ sym (get-insert o (map.from_entries es) k v q ∙ ap (cond (eq_by_cmp R q k) (Some v)) (get-from_entries o es q)))

  -- to push a pair whose key has no place is to insert it
  pub insert-push : (k : K) (v : X) (es : List (K × X)) → position (λ (pair : K × X). eq_by_cmp R k pair.0) es ≡ None
      → map.from_entries {R = R} (es ++ (k, v) ∷ []) ≡ map.insert (map.from_entries es) k v
  insert-push k v es e = from_entries_push o same es k v (find-no_place R k es e)

  -- as many pairs as keys, after a pair is written at its key's place
  pub length-place : (k : K) (v : X) (es : List (K × X)) (i : ℕ) (d : K × X) → position (λ (pair : K × X). eq_by_cmp R k pair.0) es ≡ Some i
      → length es ≡ map.len (map.from_entries {R = R} es) → length (slice_set es i (k, v)) ≡ map.len (map.from_entries {R = R} (slice_set es i (k, v)))
  length-place k v es i d e whole =
      let there : map.contains_key (map.from_entries {R = R} es) k ≡ true = ap is_some (get-place k es i d e) in
      length-set es i (k, v) ∙ whole
      ∙ sym (ap map.len (insert-place k v es i d e) ∙ len-insert o (map.from_entries es) k v
      ∙ ap (λ (b : Bool). cond b (map.len (map.from_entries {R = R} es)) (map.len (map.from_entries {R = R} es) + 1)) there)

  -- and after a pair is pushed whose key has no place
  pub length-push : (k : K) (v : X) (es : List (K × X)) → position (λ (pair : K × X). eq_by_cmp R k pair.0) es ≡ None
      → length es ≡ map.len (map.from_entries {R = R} es) → length (es ++ (k, v) ∷ []) ≡ map.len (map.from_entries {R = R} (es ++ (k, v) ∷ []))
  length-push k v es e whole =
      let none : map.contains_key (map.from_entries {R = R} es) k ≡ false = ap is_some (get-no_place k es e) in
      length-append es ((k, v) ∷ []) ∙ ap (λ (n : ℕ). n + 1) whole
      ∙ sym (ap map.len (insert-push k v es e) ∙ len-insert o (map.from_entries es) k v
      ∙ ap (λ (b : Bool). cond b (map.len (map.from_entries {R = R} es)) (map.len (map.from_entries {R = R} es) + 1)) none)
