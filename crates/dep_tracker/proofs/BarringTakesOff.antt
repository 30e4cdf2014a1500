-- What is left of lists of names without one of them, and what is ready once a thunk is barred.
use Rattle.std.proofs.Common.{◌≡◌, ◌⊎◌, inl, inr, ℕ, ◌+◌, ◌<◌, ◌≤◌, suc, zero, length, List, [], ◌∷◌, ◌++◌, Bool, true, false, not, ◌||◌, if◌then◌else◌, filter, refl, sym, ap, ◌∙◌, subst, ⊎_elim, arith}
use Rattle.std.specs.List.{AllByRecursion, IsDistinct}
use Rattle.object_name.specs.Name.{ObjectName}
use Rattle.thunk_codec.specs.Thunk.{Parts}
use Rattle.dep_tracker.specs.Known.{Known, same_name, has_name}
use Rattle.dep_tracker.specs.Tracked.{IsReady, Picks, none, taken, left, without}
use Rattle.dep_tracker.proofs.Booleans.{is_or_not, contradict, true_or, or_right, or_false, false_or}
use Rattle.dep_tracker.proofs.NamesAreCompared.{name-self, name-equal}
use Rattle.dep_tracker.proofs.WalksMeetReach.{has-append, has-left, has-right, has-cons}
use Rattle.dep_tracker.proofs.NewThunksAreListed.{flipped_false}

flipped : (a b : ObjectName) → same_name a b ≡ true → same_name b a ≡ true
flipped a b h = subst (λ c. same_name c a ≡ true) (name-equal a b h) (name-self a)

kept_by : (t : Bool) (x : ObjectName) (xs : List ObjectName) → t ≡ false → (if not t then x ∷ xs else xs) ≡ x ∷ xs
kept_by true x xs h = absurd (grind (arith, h))
kept_by false x xs h = refl

dropped_by : (t : Bool) (x : ObjectName) (xs : List ObjectName) → t ≡ true → (if not t then x ∷ xs else xs) ≡ xs
dropped_by true x xs h = refl
dropped_by false x xs h = absurd (grind (arith, h))

-- what is left is no longer
pub without-within : (names : List ObjectName) (name : ObjectName) → length (without names name) ≤ length names
without-within [] name = omega arith
without-within (x ∷ xs) name = ⊎_elim
    (λ t. let e = ap length (dropped_by _ x (without xs name) t) in let l = without-within xs name in omega (arith, e, l))
    (λ f. let e = ap length (kept_by _ x (without xs name) f) in let l = without-within xs name in omega (arith, e, l))
    (is_or_not (same_name name x))

-- and shorter, where the name was there
pub without-less : (names : List ObjectName) (name : ObjectName) → has_name names name ≡ true → length (without names name) < length names
without-less [] name h = absurd (grind (arith, h))
without-less (x ∷ xs) name h = ⊎_elim
    (λ t. let e = ap length (dropped_by _ x (without xs name) t) in let l = without-within xs name in omega (arith, e, l))
    (λ f. let e = ap length (kept_by _ x (without xs name) f) in
    let l = without-less xs name (⊎_elim (λ t. absurd (contradict _ t f)) (λ r. r) (has-cons same_name x xs name h)) in omega (arith, e, l))
    (is_or_not (same_name name x))

-- a list that has a name isn't empty
pub has-length : (names : List ObjectName) (name : ObjectName) → has_name names name ≡ true → 0 < length names
has-length [] name h = absurd (grind (arith, h))
has-length (x ∷ xs) name h = omega arith

-- what is left was there, and differs
pub without-found : (names : List ObjectName) (name other : ObjectName) → has_name (without names name) other ≡ true →
    (has_name names other ≡ true) × (same_name other name ≡ false)
without-found [] name other h = absurd (grind (arith, h))
without-found (x ∷ xs) name other h = ⊎_elim
    (λ t. let r = without-found xs name other (subst (λ l. has_name l other ≡ true) (dropped_by _ x (without xs name) t) h) in
    (or_right (same_name other x) _ r.0, r.1))
    (λ f. ⊎_elim
    (λ s. (true_or (same_name other x) _ s, flipped_false name other (subst (λ y. same_name name y ≡ false) (sym (name-equal other x s)) f)))
    (λ m. let r = without-found xs name other m in (or_right (same_name other x) _ r.0, r.1))
    (has-cons same_name x (without xs name) other (subst (λ l. has_name l other ≡ true) (kept_by _ x (without xs name) f) h)))
    (is_or_not (same_name name x))

-- what was there and differs is left
pub without-only : (names : List ObjectName) (name other : ObjectName) → has_name names other ≡ true → same_name other name ≡ false →
    has_name (without names name) other ≡ true
without-only [] name other h differ = h
without-only (x ∷ xs) name other h differ = ⊎_elim
    (λ t. subst (λ l. has_name l other ≡ true) (sym (dropped_by _ x (without xs name) t))
    (⊎_elim (λ s. absurd (contradict _ (subst (λ y. same_name y name ≡ true) (sym (name-equal other x s)) (flipped name x t)) differ))
    (λ m. without-only xs name other m differ) (has-cons same_name x xs other h)))
    (λ f. subst (λ l. has_name l other ≡ true) (sym (kept_by _ x (without xs name) f))
    (⊎_elim (λ s. true_or (same_name other x) _ s)
    (λ m. or_right (same_name other x) _ (without-only xs name other m differ)) (has-cons same_name x xs other h)))
    (is_or_not (same_name name x))

all-without : (P : ObjectName → Type 0) (names : List ObjectName) (name : ObjectName) → AllByRecursion P names → AllByRecursion P (without names name)
all-without P [] name all = all
all-without P (x ∷ xs) name all = ⊎_elim
    (λ t. subst (AllByRecursion P) (sym (dropped_by _ x (without xs name) t)) (all-without P xs name all.1))
    (λ f. subst (AllByRecursion P) (sym (kept_by _ x (without xs name) f)) (all.0, all-without P xs name all.1))
    (is_or_not (same_name name x))

-- what is left differs as it did
pub without-distinct : (names : List ObjectName) (name : ObjectName) → IsDistinct same_name names → IsDistinct same_name (without names name)
unfolding IsDistinct
without-distinct [] name all = all
without-distinct (x ∷ xs) name all = ⊎_elim
    (λ t. subst (IsDistinct same_name) (sym (dropped_by _ x (without xs name) t)) (without-distinct xs name all.1))
    (λ f. subst (IsDistinct same_name) (sym (kept_by _ x (without xs name) f))
    (all-without (λ y. same_name x y ≡ false) xs name all.0, without-distinct xs name all.1))
    (is_or_not (same_name name x))

-- a name is barred that was, or is barred now
pub barred-more : (barred : List ObjectName) (name other : ObjectName) → has_name barred other ≡ false → same_name other name ≡ false →
    has_name (barred ++ name ∷ []) other ≡ false
barred-more barred name other h k = has-append same_name barred (name ∷ []) other ∙ false_or _ _ h (false_or (same_name other name) false k refl)

module _ (k : Known) (barred : List ObjectName) (name : ObjectName) where
  now_barred : (e : ObjectName × Parts) → same_name name e.0 ≡ true → ¬ (IsReady k (barred ++ name ∷ []) e)
  now_barred e h r = contradict _ (has-right same_name barred (name ∷ []) e.0 (true_or (same_name e.0 name) false (flipped name e.0 h))) r.not_barred

  still_ready : (e : ObjectName × Parts) → same_name name e.0 ≡ false → IsReady k barred e → IsReady k (barred ++ name ∷ []) e
  still_ready e h r = record {
    in_reach = r.in_reach;
    values = r.values;
    not_absorbed = r.not_absorbed;
    not_barred = barred-more barred name e.0 r.not_barred (flipped_false name e.0 h);
  }

  was_ready : (e : ObjectName × Parts) → IsReady k (barred ++ name ∷ []) e → IsReady k barred e
  was_ready e r = record {
    in_reach = r.in_reach;
    values = r.values;
    not_absorbed = r.not_absorbed;
    not_barred = (or_false _ _ (sym (has-append same_name barred (name ∷ []) e.0) ∙ r.not_barred)).0;
  }

  -- the others that were ready are
  pub picks-barred : (added : List (ObjectName × Parts)) (names : List ObjectName) → Picks (IsReady k barred) added names →
      Picks (IsReady k (barred ++ name ∷ [])) added (without names name)
  picks-barred _ _ none = none
  picks-barred _ _ (taken e entries names r picks) = ⊎_elim
      (λ t. subst (Picks (IsReady k (barred ++ name ∷ [])) (e ∷ entries)) (sym (dropped_by _ e.0 (without names name) t))
      (left e entries (without names name) (now_barred e t) (picks-barred entries names picks)))
      (λ f. subst (Picks (IsReady k (barred ++ name ∷ [])) (e ∷ entries)) (sym (kept_by _ e.0 (without names name) f))
      (taken e entries (without names name) (still_ready e f r) (picks-barred entries names picks)))
      (is_or_not (same_name name e.0))
  picks-barred _ _ (left e entries names r picks) = left e entries (without names name) (λ s. r (was_ready e s)) (picks-barred entries names picks)

-- once a thunk is barred there is room to bar the others
pub room-left : (unknown ready unknown' ready' : List ObjectName) (name : ObjectName) (room rest : ℕ) → (has_name unknown name ≡ true) ⊎ (has_name ready name ≡ true) →
    unknown' ≡ without unknown name → ready' ≡ without ready name → length unknown + length ready ≤ room → room ≤ rest + 1 → length unknown' + length ready' ≤ rest
room-left unknown ready unknown' ready' name room rest (inl u) e f within one =
    let a = ap length e in let b = ap length f in
    let less = without-less unknown name u in let most = without-within ready name in
    omega (arith, a, b, less, most, within, one)
room-left unknown ready unknown' ready' name room rest (inr r) e f within one =
    let a = ap length e in let b = ap length f in
    let most = without-within unknown name in let less = without-less ready name r in
    omega (arith, a, b, less, most, within, one)

-- there is room to bar a thunk that is unknown or ready
pub room-for : (unknown ready : List ObjectName) (name : ObjectName) (room : ℕ) → (has_name unknown name ≡ true) ⊎ (has_name ready name ≡ true) →
    length unknown + length ready ≤ room → 0 < room
room-for unknown ready name room (inl u) within = let some = has-length unknown name u in omega (arith, some, within)
room-for unknown ready name room (inr r) within = let some = has-length ready name r in omega (arith, some, within)
