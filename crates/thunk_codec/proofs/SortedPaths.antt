-- Paths in order: the same paths, each before the next where none is repeated; and no other list is so.
use Rattle.std.proofs.Common.{◌≡◌, ℕ, suc, Bool, true, false, not, ◌&&◌, ◌||◌, cond, List, [], ◌∷◌, length, refl, sym, ap, subst, ◌∙◌}
use Rattle.std.specs.Prelude.{bytes_eq}
use Rattle.std.specs.List.{AllByRecursion, IsDistinct, filter, list_any}
use Rattle.std.specs.Cmp.Lexicographic.{slice_cmp}
use Rattle.std.specs.Ordering.{nat_cmp, is_lt, ordering_reverse}
use Rattle.std.specs.declared.cmp.Ordering.{Ordering}
use Rattle.std.specs.declared.cmp.Ordering.TheVariants.{Less, Equal, Greater}
use Rattle.std.proofs.lemmas.Bool.{and_from, and_parts, false≢true, false_from_ne_true}
use Rattle.std.proofs.lemmas.Cmp.{nat_list_cmp_total}
use Rattle.std.proofs.lemmas.Map.Lookups.{exact_bytes}
use Rattle.std.proofs.lemmas.Slice.Eq.{bytes_eq-Decides}
use Rattle.text_lines.specs.Among.{is_among}
use Rattle.thunk_codec.specs.Sorted.{is_before_by, inserted_by, sorted_by, sorted_paths}
use Rattle.thunk_codec.specs.Thunk.{is_strictly_increasing}
use Rattle.thunk_codec.proofs.SortedByKey.{InOrder, NoneBefore, is_tied, order, insertion_in_order, none_before_lower, ordered_is_sorted}

-- ---- any key

or_turned : (a b c : Bool) → (b || (a || c)) ≡ (a || (b || c))
or_turned true true c = refl
or_turned true false c = refl
or_turned false true c = refl
or_turned false false c = refl

module _ {A : Type 0} (key : A → List ℕ) where
  inserted_any : (p : A → Bool) (item : A) (xs : List A) → list_any p (inserted_by key item xs) ≡ (p item || list_any p xs)
  inserted_any p item [] = refl
  inserted_any p item (first ∷ others) = by (inserted_any p item others) (is_before_by key first item)
    where
      by : list_any p (inserted_by key item others) ≡ (p item || list_any p others) → (b : Bool) → list_any p (cond b (first ∷ inserted_by key item others) (item ∷ first ∷ others)) ≡ (p item || (p first || list_any p others))
      by further true = ap (λ rest. p first || rest) further ∙ or_turned (p item) (p first) (list_any p others)
      by further false = refl

  -- sorting keeps the items
  pub sorted-any : (p : A → Bool) (xs : List A) → list_any p (sorted_by key xs) ≡ list_any p xs
  unfolding sorted_by
  sorted-any p [] = refl
  sorted-any p (x ∷ xs) = inserted_any p x (sorted_by key xs) ∙ ap (λ rest. p x || rest) (sorted-any p xs)

  length-inserted : (item : A) (xs : List A) → length (inserted_by key item xs) ≡ suc (length xs)
  length-inserted item [] = refl
  length-inserted item (first ∷ others) = by (length-inserted item others) (is_before_by key first item)
    where
      by : length (inserted_by key item others) ≡ suc (length others) → (b : Bool) → length (cond b (first ∷ inserted_by key item others) (item ∷ first ∷ others)) ≡ suc (suc (length others))
      by further true = ap suc further
      by further false = refl

  -- and their number
  pub length-sorted : (xs : List A) → length (sorted_by key xs) ≡ length xs
  unfolding sorted_by
  length-sorted [] = refl
  length-sorted (x ∷ xs) = length-inserted x (sorted_by key xs) ∙ ap suc (length-sorted xs)

-- ---- paths

abbrev self : List ℕ → List ℕ
self path = path

differ_turned : (a b : List ℕ) → bytes_eq a b ≡ false → bytes_eq b a ≡ false
differ_turned a b h = false_from_ne_true (bytes_eq b a) (λ same. false≢true (sym h ∙ (bytes_eq-Decides a b).1 (sym ((bytes_eq-Decides b a).0 same))))

differ_inserted : (path item : List ℕ) (xs : List (List ℕ)) → bytes_eq path item ≡ false → AllByRecursion (λ y. bytes_eq path y ≡ false) xs
    → AllByRecursion (λ y. bytes_eq path y ≡ false) (inserted_by self item xs)
differ_inserted path item [] one all = (one, tt)
differ_inserted path item (first ∷ others) one all = by (differ_inserted path item others one all.1) (is_before_by self first item)
  where
    by : AllByRecursion (λ y. bytes_eq path y ≡ false) (inserted_by self item others)
        → (b : Bool) → AllByRecursion (λ y. bytes_eq path y ≡ false) (cond b (first ∷ inserted_by self item others) (item ∷ first ∷ others))
    by further true = (all.0, further)
    by further false = (one, all)

distinct_inserted : (item : List ℕ) (xs : List (List ℕ)) → AllByRecursion (λ y. bytes_eq item y ≡ false) xs → IsDistinct bytes_eq xs → IsDistinct bytes_eq (inserted_by self item xs)
unfolding IsDistinct
distinct_inserted item [] one all = (tt, tt)
distinct_inserted item (first ∷ others) one all = by (distinct_inserted item others one.1 all.1) (is_before_by self first item)
  where
    by : IsDistinct bytes_eq (inserted_by self item others) → (b : Bool) → IsDistinct bytes_eq (cond b (first ∷ inserted_by self item others) (item ∷ first ∷ others))
    by further true = (differ_inserted first item others (differ_turned item first one.0) all.0, further)
    by further false = (one, all)

differ_sorted : (path : List ℕ) (xs : List (List ℕ)) → AllByRecursion (λ y. bytes_eq path y ≡ false) xs → AllByRecursion (λ y. bytes_eq path y ≡ false) (sorted_by self xs)
unfolding sorted_by
differ_sorted path [] all = tt
differ_sorted path (x ∷ xs) all = differ_inserted path x (sorted_by self xs) all.0 (differ_sorted path xs all.1)

distinct_sorted : (xs : List (List ℕ)) → IsDistinct bytes_eq xs → IsDistinct bytes_eq (sorted_by self xs)
unfolding sorted_by IsDistinct
distinct_sorted [] all = tt
distinct_sorted (x ∷ xs) all = distinct_inserted x (sorted_by self xs) (differ_sorted x xs all.0) (distinct_sorted xs all.1)

-- a path that differs from one that isn't before it is before that one
before : (first second : List ℕ) → is_lt (slice_cmp nat_cmp second first) ≡ false → bytes_eq first second ≡ false → is_lt (slice_cmp nat_cmp first second) ≡ true
before first second ordered differ = by_order (slice_cmp nat_cmp first second) refl where
  by_order : (order : Ordering) → slice_cmp nat_cmp first second ≡ order → is_lt order ≡ true
  by_order Less is = refl
  by_order Equal is = absurd (false≢true (sym differ ∙ (bytes_eq-Decides first second).1 (exact_bytes first second is)))
  by_order Greater is = absurd (false≢true (sym ordered ∙ ap is_lt (nat_list_cmp_total.antisymm second first ∙ ap ordering_reverse is)))

ordered_rise : (xs : List (List ℕ)) → InOrder self xs → IsDistinct bytes_eq xs → is_strictly_increasing xs ≡ true
unfolding IsDistinct
ordered_rise [] up distinct = refl
ordered_rise (one ∷ []) up distinct = refl
ordered_rise (first ∷ second ∷ others) up distinct =
    and_from _ _ (before first second up.0.0 distinct.0.0) (ordered_rise (second ∷ others) up.1 distinct.1)

-- sorted paths are the same paths
pub sorted_paths-same : (paths : List (List ℕ)) (path : List ℕ) → is_among (sorted_paths paths) path ≡ is_among paths path
sorted_paths-same paths path = sorted-any self (bytes_eq path) paths

-- each is before the next, where none is repeated
pub sorted_paths-rise : (paths : List (List ℕ)) → IsDistinct bytes_eq paths → is_strictly_increasing (sorted_paths paths) ≡ true
sorted_paths-rise paths distinct = ordered_rise (sorted_by self paths) (insertion_in_order self paths) (distinct_sorted paths distinct)

pub length-sorted_paths : (paths : List (List ℕ)) → length (sorted_paths paths) ≡ length paths
length-sorted_paths paths = length-sorted self paths

-- ---- no other list is so

rise_ordered : (xs : List (List ℕ)) → is_strictly_increasing xs ≡ true → InOrder self xs
rise_ordered [] h = tt
rise_ordered (one ∷ []) h = (tt, tt)
rise_ordered (first ∷ second ∷ others) h =
    let parts = and_parts (is_lt (slice_cmp nat_cmp first second)) (is_strictly_increasing (second ∷ others)) h in
    let rest = rise_ordered (second ∷ others) parts.1 in
    let turned = (order self).one_way first second parts.0 in
    ((turned, none_before_lower self first second others turned rest.0), rest)

rise_differ : (first second : List ℕ) (xs : List (List ℕ)) → is_lt (slice_cmp nat_cmp first second) ≡ true → NoneBefore self second xs → AllByRecursion (λ y. bytes_eq first y ≡ false) xs
rise_differ first second [] less none = tt
rise_differ first second (x ∷ xs) less none =
    let differ = false_from_ne_true (bytes_eq first x) (λ same.
    false≢true (sym none.0 ∙ (ap (λ path. is_lt (slice_cmp nat_cmp path second)) (sym ((bytes_eq-Decides first x).0 same)) ∙ less))) in
    (differ, rise_differ first second xs less none.1)

less_differ : (first second : List ℕ) → is_lt (slice_cmp nat_cmp first second) ≡ true → bytes_eq first second ≡ false
less_differ first second less = false_from_ne_true (bytes_eq first second) (λ same.
    let is = (bytes_eq-Decides first second).0 same in
    let self_less : is_lt (slice_cmp nat_cmp second second) ≡ true = ap (λ path. is_lt (slice_cmp nat_cmp path second)) (sym is) ∙ less in
    false≢true (sym ((order self).one_way second second self_less) ∙ self_less))

-- paths of which each is before the next are distinct
pub rising_distinct : (xs : List (List ℕ)) → is_strictly_increasing xs ≡ true → IsDistinct bytes_eq xs
unfolding IsDistinct
rising_distinct [] h = tt
rising_distinct (one ∷ []) h = (tt, record {})
rising_distinct (first ∷ second ∷ others) h =
    let parts = and_parts (is_lt (slice_cmp nat_cmp first second)) (is_strictly_increasing (second ∷ others)) h in
    let rest = rise_ordered (second ∷ others) parts.1 in
    ((less_differ first second parts.0, rise_differ first second others parts.0 rest.0), rising_distinct (second ∷ others) parts.1)

-- two paths tie exactly if they are the same
tied_is : (a b : List ℕ) → is_tied self a b ≡ bytes_eq a b
tied_is a b = by (slice_cmp nat_cmp a b) refl
  where
    apart : bytes_eq a b ≡ false → is_tied self a b ≡ false → is_tied self a b ≡ bytes_eq a b
    apart differ untied = untied ∙ sym differ

    by : (o : Ordering) → slice_cmp nat_cmp a b ≡ o → is_tied self a b ≡ bytes_eq a b
    by Less is = apart (less_differ a b (ap is_lt is)) (ap (λ o. not (is_lt o) && not (is_lt (slice_cmp nat_cmp b a))) is)
    by Equal is =
        let turned : slice_cmp nat_cmp b a ≡ Equal = nat_list_cmp_total.antisymm b a ∙ ap ordering_reverse is in
        let tie : is_tied self a b ≡ true = and_from _ _ (ap (λ o. not (is_lt o)) is) (ap (λ o. not (is_lt o)) turned) in
        tie ∙ sym ((bytes_eq-Decides a b).1 (exact_bytes a b is))
    by Greater is =
        let turned : slice_cmp nat_cmp b a ≡ Less = nat_list_cmp_total.antisymm b a ∙ ap ordering_reverse is in
        let tie : is_tied self a b ≡ false = ap (λ o. not (is_lt (slice_cmp nat_cmp a b)) && not (is_lt o)) turned ∙ ap (λ o. not (is_lt o) && false) is in
        apart (differ_turned b a (less_differ b a (ap is_lt turned))) tie

none_kept : (path : List ℕ) (xs : List (List ℕ)) → AllByRecursion (λ y. bytes_eq path y ≡ false) xs → filter (is_tied self path) xs ≡ []
none_kept path [] all = refl
none_kept path (x ∷ xs) all = ap (λ b. cond b (x ∷ filter (is_tied self path) xs) (filter (is_tied self path) xs)) (tied_is path x ∙ all.0) ∙ none_kept path xs all.1

-- of distinct paths those that tie with one are that one, if it is among them
kept_distinct : (path : List ℕ) (xs : List (List ℕ)) → IsDistinct bytes_eq xs → filter (is_tied self path) xs ≡ cond (is_among xs path) (path ∷ []) []
unfolding IsDistinct
kept_distinct path [] distinct = refl
kept_distinct path (x ∷ xs) distinct = ap (λ b. cond b (x ∷ filter (is_tied self path) xs) (filter (is_tied self path) xs)) (tied_is path x) ∙ by (kept_distinct path xs distinct.1) (bytes_eq path x) refl
  where
    by : filter (is_tied self path) xs ≡ cond (is_among xs path) (path ∷ []) [] → (b : Bool) → bytes_eq path x ≡ b → cond b (x ∷ filter (is_tied self path) xs) (filter (is_tied self path) xs) ≡ cond (b || is_among xs path) (path ∷ []) []
    by further true is =
        let same = (bytes_eq-Decides path x).0 is in
        let none = none_kept path xs (subst (λ (p : List ℕ). AllByRecursion (λ y. bytes_eq p y ≡ false) xs) (sym same) distinct.0) in
        ap (λ p. p ∷ filter (is_tied self path) xs) (sym same) ∙ ap (λ rest. path ∷ rest) none
    by further false is = further

-- paths of which each is before the next, the same as some that are distinct, are those sorted
pub rising_is_sorted : (visited paths : List (List ℕ)) → IsDistinct bytes_eq visited → ((path : List ℕ) → is_among paths path ≡ is_among visited path)
    → is_strictly_increasing paths ≡ true → paths ≡ sorted_paths visited
rising_is_sorted visited paths distinct same rise =
    ordered_is_sorted self visited paths (rise_ordered paths rise)
    (λ path. kept_distinct path paths (rising_distinct paths rise) ∙ (ap (λ b. cond b (path ∷ []) []) (same path) ∙ sym (kept_distinct path visited distinct)))

-- what rises is sorted already
pub sorted_paths-rising : (paths : List (List ℕ)) → is_strictly_increasing paths ≡ true → sorted_paths paths ≡ paths
sorted_paths-rising paths rise = sym (rising_is_sorted paths paths (rising_distinct paths rise) (λ path. refl) rise)
