-- What a stable sort by a key gives is the insertion sort.
use Rattle.std.proofs.Common.{◌≡◌, ◌<◌, ◌≤◌, ℕ, suc, Bool, true, false, not, cond, List, [], ◌∷◌, length, get_or, refl, sym, ap, ◌∙◌, arith}
use Rattle.std.specs.List.{AllByRecursion, filter}
use Rattle.std.specs.List.Sorted.{IsSortedBy, IsStableBy, ties}
use Rattle.std.specs.Cmp.{IsStrictWeakOrder}
use Rattle.std.proofs.lemmas.Bool.{and_from, and_parts, false≢true}
use Rattle.std.proofs.lemmas.Cmp.{nat_list_cmp_total}
use Rattle.std.proofs.lemmas.List.Sorted.{ranks_by, sorted_far}
use Rattle.thunk_codec.specs.Sorted.{is_before_by, inserted_by, sorted_by}

cons_item : {A : Type 0} (x y : A) (xs ys : List A) → x ∷ xs ≡ y ∷ ys → x ≡ y
cons_item x y xs ys e = cc

cons_others : {A : Type 0} (x y : A) (xs ys : List A) → x ∷ xs ≡ y ∷ ys → xs ≡ ys
cons_others x y xs ys e = cc

not_nil : {A : Type 0} (x : A) (xs : List A) → [] ≡ x ∷ xs → ⊥
not_nil x xs e = cc

not_true : (b : Bool) → b ≡ false → not b ≡ true
not_true true e = sym e
not_true false e = refl

true_not : (b : Bool) → not b ≡ true → b ≡ false
true_not true e = sym e
true_not false e = refl

module _ {A : Type 0} (key : A → List ℕ) where
  abbrev pub is_before : A → A → Bool
  is_before = is_before_by key

  abbrev pub is_tied : A → A → Bool
  is_tied = ties is_before

  pub order : IsStrictWeakOrder is_before
  order = ranks_by nat_list_cmp_total key

  not_before_self : (x : A) → is_before x x ≡ false
  not_before_self x = by (is_before x x) refl
    where
      by : (b : Bool) → is_before x x ≡ b → b ≡ false
      by true is = sym is ∙ order.one_way x x is
      by false is = refl

  tied : (x y : A) → is_before x y ≡ false → is_before y x ≡ false → is_tied x y ≡ true
  tied x y a b = and_from _ _ (not_true (is_before x y) a) (not_true (is_before y x) b)

  tied_itself : (x : A) → is_tied x x ≡ true
  tied_itself x = tied x x (not_before_self x) (not_before_self x)

  -- neither of two that tie is before the other
  tied_parts : (x y : A) → is_tied x y ≡ true → (is_before x y ≡ false) × (is_before y x ≡ false)
  tied_parts x y h =
      let parts = and_parts (not (is_before x y)) _ h in
      (true_not (is_before x y) parts.0, true_not (is_before y x) parts.1)

  -- none of some is before an item
  abbrev pub NoneBefore : A → List A → Type 0
  NoneBefore x xs = AllByRecursion (λ y. is_before y x ≡ false) xs

  -- none is before one that stands in front of it
  abbrev pub InOrder : List A → Type 0
  InOrder [] = Unit {0}
  InOrder (x ∷ xs) = NoneBefore x xs × InOrder xs

  none_before : (x : A) (xs : List A) → ((k : ℕ) → k < length xs → is_before (get_or xs k x) x ≡ false) → NoneBefore x xs
  none_before x [] h = tt
  none_before x (y ∷ ys) h = (h 0 (omega arith), none_before x ys (λ k below. h (suc k) (omega arith)))

  in_order : (xs : List A) → ((i j : ℕ) (d : A) → i ≤ j → j < length xs → is_before (get_or xs j d) (get_or xs i d) ≡ false) → InOrder xs
  in_order [] h = tt
  in_order (x ∷ xs) h =
      (none_before x xs (λ k below. h 0 (suc k) x (omega arith) (omega arith)), in_order xs (λ i j d low high. h (suc i) (suc j) d (omega arith) (omega arith)))

  sorted_in_order : (xs : List A) → IsSortedBy is_before xs → InOrder xs
  sorted_in_order xs up = in_order xs (sorted_far is_before order xs up)

  -- ---- lists in order that have the same items of each key in the same order are the same

  -- an item that ties with one of some isn't before what none of them is before
  some_tied : (x y : A) (xs rest : List A) → NoneBefore y xs → filter (is_tied x) xs ≡ x ∷ rest → is_before x y ≡ false
  some_tied x y [] rest none is = absurd (not_nil x rest is)
  some_tied x y (z ∷ zs) rest none is = by (some_tied x y zs rest none.1) (is_tied x z) refl
    where
      by : (filter (is_tied x) zs ≡ x ∷ rest → is_before x y ≡ false) → (b : Bool) → is_tied x z ≡ b → is_before x y ≡ false
      by further true tie = order.chain x z y (tied_parts x z tie).0 none.0
      by further false tie = further (ap (λ b. cond b (z ∷ filter (is_tied x) zs) (filter (is_tied x) zs)) (sym tie) ∙ is)

  kept_self : (x : A) (xs : List A) → filter (is_tied x) (x ∷ xs) ≡ x ∷ filter (is_tied x) xs
  kept_self x xs = ap (λ b. cond b (x ∷ filter (is_tied x) xs) (filter (is_tied x) xs)) (tied_itself x)

  kept_tied : (x y : A) (ys : List A) → is_tied x y ≡ true → filter (is_tied x) (y ∷ ys) ≡ y ∷ filter (is_tied x) ys
  kept_tied x y ys tie = ap (λ b. cond b (y ∷ filter (is_tied x) ys) (filter (is_tied x) ys)) tie

  others_kept : (b : Bool) (x : A) (xs ys : List A) → cond b (x ∷ xs) xs ≡ cond b (x ∷ ys) ys → xs ≡ ys
  others_kept true x xs ys e = cons_others x x xs ys e
  others_kept false x xs ys e = e

  same_order : (xs ys : List A) → InOrder xs → InOrder ys → ((x : A) → filter (is_tied x) xs ≡ filter (is_tied x) ys) → xs ≡ ys
  same_order [] [] up up' same = refl
  same_order [] (y ∷ ys) up up' same = absurd (not_nil y (filter (is_tied y) ys) (same y ∙ kept_self y ys))
  same_order (x ∷ xs) [] up up' same = absurd (not_nil x (filter (is_tied x) xs) (sym (same x) ∙ kept_self x xs))
  same_order (x ∷ xs) (y ∷ ys) up up' same =
      let first = some_tied x y (y ∷ ys) (filter (is_tied x) xs) (not_before_self y, up'.0) (sym (same x) ∙ kept_self x xs) in
      let second = some_tied y x (x ∷ xs) (filter (is_tied y) ys) (not_before_self x, up.0) (same y ∙ kept_self y ys) in
      let head : x ≡ y = cons_item x y _ _ (sym (kept_self x xs) ∙ (same x ∙ kept_tied x y ys (tied x y first second))) in
      let others : xs ≡ ys =
      same_order xs ys up.1 up'.1 (λ z. others_kept (is_tied z x) x (filter (is_tied z) xs) (filter (is_tied z) ys) (same z ∙ ap (λ w. filter (is_tied z) (w ∷ ys)) (sym head))) in
      ap (λ w. w ∷ xs) head ∙ ap (λ zs. y ∷ zs) others

  -- ---- insertion sort

  inserted_none_before : (x item : A) (xs : List A) → is_before item x ≡ false → NoneBefore x xs → NoneBefore x (inserted_by key item xs)
  inserted_none_before x item [] one none = (one, tt)
  inserted_none_before x item (first ∷ others) one none = by (inserted_none_before x item others one none.1) (is_before first item)
    where
      by : NoneBefore x (inserted_by key item others) → (b : Bool) → NoneBefore x (cond b (first ∷ inserted_by key item others) (item ∷ first ∷ others))
      by further true = (none.0, further)
      by further false = (one, none)

  pub none_before_lower : (item first : A) (xs : List A) → is_before first item ≡ false → NoneBefore first xs → NoneBefore item xs
  none_before_lower item first [] low none = tt
  none_before_lower item first (x ∷ xs) low none = (order.chain x first item none.0 low, none_before_lower item first xs low none.1)

  inserted_in_order : (item : A) (xs : List A) → InOrder xs → InOrder (inserted_by key item xs)
  inserted_in_order item [] up = (tt, tt)
  inserted_in_order item (first ∷ others) up = by (inserted_in_order item others up.1) (is_before first item) refl
    where
      by : InOrder (inserted_by key item others) → (b : Bool) → is_before first item ≡ b → InOrder (cond b (first ∷ inserted_by key item others) (item ∷ first ∷ others))
      by further true is = (inserted_none_before first item others (order.one_way first item is) up.0, further)
      by further false is = ((is, none_before_lower item first others is up.0), up)

  -- two of which one is before the other don't both tie with a third
  not_both : (x first item : A) → is_before first item ≡ true → is_tied x first ≡ true → is_tied x item ≡ true → ⊥
  not_both x first item is one two =
      false≢true (sym (order.chain first x item (tied_parts x first one).1 (tied_parts x item two).0) ∙ is)

  swapped : (a b : Bool) (first item : A) (xs : List A) → (both : a ≡ true → b ≡ true → ⊥)
      → cond a (first ∷ cond b (item ∷ xs) xs) (cond b (item ∷ xs) xs) ≡ cond b (item ∷ cond a (first ∷ xs) xs) (cond a (first ∷ xs) xs)
  swapped true true first item xs both = absurd (both refl refl)
  swapped true false first item xs both = refl
  swapped false true first item xs both = refl
  swapped false false first item xs both = refl

  inserted_kept : (x item : A) (xs : List A) → filter (is_tied x) (inserted_by key item xs) ≡ filter (is_tied x) (item ∷ xs)
  inserted_kept x item [] = refl
  inserted_kept x item (first ∷ others) = by (inserted_kept x item others) (is_before first item) refl
    where
      by : filter (is_tied x) (inserted_by key item others) ≡ filter (is_tied x) (item ∷ others) → (b : Bool) → is_before first item ≡ b
          → filter (is_tied x) (cond b (first ∷ inserted_by key item others) (item ∷ first ∷ others)) ≡ filter (is_tied x) (item ∷ first ∷ others)
      by further true is =
          ap (λ kept. cond (is_tied x first) (first ∷ kept) kept) further
          ∙ swapped (is_tied x first) (is_tied x item) first item (filter (is_tied x) others) (not_both x first item is)
      by further false is = refl

  pub insertion_in_order : (xs : List A) → InOrder (sorted_by key xs)
  unfolding sorted_by
  insertion_in_order [] = tt
  insertion_in_order (x ∷ xs) = inserted_in_order x (sorted_by key xs) (insertion_in_order xs)

  insertion_kept : (x : A) (xs : List A) → filter (is_tied x) (sorted_by key xs) ≡ filter (is_tied x) xs
  unfolding sorted_by
  insertion_kept x [] = refl
  insertion_kept x (y ∷ ys) = inserted_kept x y (sorted_by key ys) ∙ ap (λ kept. cond (is_tied x y) (y ∷ kept) kept) (insertion_kept x ys)

  -- a list in order with the same items of each key in the same order is the insertion sort
  pub ordered_is_sorted : (xs ys : List A) → InOrder ys → ((x : A) → filter (is_tied x) ys ≡ filter (is_tied x) xs) → ys ≡ sorted_by key xs
  ordered_is_sorted xs ys up same = same_order ys (sorted_by key xs) up (insertion_in_order xs) (λ x. same x ∙ sym (insertion_kept x xs))

  -- what a stable sort gives
  pub stable_sort_is : (xs ys : List A) → IsSortedBy is_before ys → IsStableBy is_before xs ys → ys ≡ sorted_by key xs
  stable_sort_is xs ys up stable = ordered_is_sorted xs ys (sorted_in_order ys up) stable
