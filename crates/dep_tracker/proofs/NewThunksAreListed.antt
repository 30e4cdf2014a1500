-- The new thunks of a list of REFs are listed: all of them and nothing else, each once.
use Rattle.std.proofs.Common.{◌≡◌, ◌⊎◌, inl, inr, ⊎_elim, ℕ, List, [], ◌∷◌, ◌++◌, Bool, true, false, ◌||◌, refl, sym, ap, ◌∙◌, subst, arith}
use Rattle.std.specs.List.{AllByRecursion, IsDistinct}
use Rattle.object_name.specs.Name.{ObjectName}
use Rattle.thunk_codec.specs.declared.reference.Ref.{Ref}
use Rattle.thunk_codec.specs.declared.reference.Ref.TheVariants.{Value, Out}
use Rattle.dep_tracker.specs.Walk.{has}
use Rattle.dep_tracker.specs.Known.{Known, same_name, same_ref, has_name, has_entry}
use Rattle.dep_tracker.specs.Tracked.{with_new, with_all_new}
use Rattle.dep_tracker.proofs.Booleans.{is_or_not, contradict, true_or, or_right, or_false, yes, no, untrue}
use Rattle.dep_tracker.proofs.NamesAreCompared.{name-self, name-equal, ref-self, ref-equal}
use Rattle.dep_tracker.proofs.ChainsHaveValues.{name_in}
use Rattle.dep_tracker.proofs.WalksMeetReach.{has-left, has-right, has-split, has-cons}

-- two names that differ do so the other way round
pub flipped_false : (a b : ObjectName) → same_name a b ≡ false → same_name b a ≡ false
flipped_false a b h = untrue _ (λ t. contradict _ (subst (λ c. same_name c b ≡ true) (name-equal b a t) (name-self b)) h)

pub all_more : (P : ObjectName → Type 0) (names : List ObjectName) (name : ObjectName) → AllByRecursion P names → P name → AllByRecursion P (names ++ name ∷ [])
all_more P [] name all here = (here, tt)
all_more P (x ∷ xs) name all here = (all.0, all_more P xs name all.1 here)

-- names that differ, and one more that isn't among them
pub distinct_more : (names : List ObjectName) (name : ObjectName) → IsDistinct same_name names → has_name names name ≡ false → IsDistinct same_name (names ++ name ∷ [])
unfolding IsDistinct
distinct_more [] name all new = (tt, tt)
distinct_more (x ∷ xs) name all new =
    let other = or_false (same_name name x) (has_name xs name) new in
    (all_more (λ y. same_name x y ≡ false) xs name all.0 (flipped_false name x other.0), distinct_more xs name all.1 other.1)

-- the name of a single one
only_one : (x name : ObjectName) → has_name (x ∷ []) name ≡ true → name ≡ x
only_one x name h = ⊎_elim (λ s. name-equal name x s) (λ m. absurd (grind (arith, m))) (has-cons same_name x [] name h)

module _ (k : Known) (barred : List ObjectName) where
  -- a name is new: it is neither added nor barred
  pub record IsNew (name : ObjectName) : Type 0 where
    pub not_added : has_entry k.added name ≡ false
    pub not_barred : has_name barred name ≡ false

  -- a name is new and not listed
  record IsLast (listed : List ObjectName) (name : ObjectName) : Type 0 where
    pub new : IsNew name
    pub not_listed : has_name listed name ≡ false
    pub is : with_new k barred listed name ≡ listed ++ name ∷ []

  by_test : (a b c : Bool) → ((a || b || c) ≡ true) ⊎ ((a ≡ false) × ((b ≡ false) × ((c ≡ false) × ((a || b || c) ≡ false))))
  by_test true b c = inl refl
  by_test false true c = inl refl
  by_test false false true = inl refl
  by_test false false false = inr (refl, (refl, (refl, refl)))

  -- a name is listed as it was, or last
  one : (listed : List ObjectName) (name : ObjectName) → (with_new k barred listed name ≡ listed) ⊎ IsLast listed name
  one listed name = ⊎_elim
      (λ t. inl (yes _ listed (listed ++ name ∷ []) t))
      (λ f. inr (record { new = record { not_added = f.0; not_barred = f.1.0 }; not_listed = f.1.1.0; is = no _ listed (listed ++ name ∷ []) f.1.1.1 }))
      (by_test (has_entry k.added name) (has_name barred name) (has_name listed name))

  one-stays : (listed : List ObjectName) (name other : ObjectName) → has_name listed other ≡ true → has_name (with_new k barred listed name) other ≡ true
  one-stays listed name other h = ⊎_elim
      (λ e. subst (λ l. has_name l other ≡ true) (sym e) h)
      (λ (l : IsLast listed name). subst (λ l. has_name l other ≡ true) (sym l.is) (has-left same_name listed (name ∷ []) other h))
      (one listed name)

  one-found : (listed : List ObjectName) (name other : ObjectName) → has_name (with_new k barred listed name) other ≡ true →
      (has_name listed other ≡ true) ⊎ (IsNew other × (other ≡ name))
  one-found listed name other h = ⊎_elim
      (λ e. inl (subst (λ l. has_name l other ≡ true) e h))
      (λ (l : IsLast listed name). ⊎_elim inl
      (λ m. let is = only_one name other m in inr (subst IsNew (sym is) l.new, is))
      (has-split same_name listed (name ∷ []) other (subst (λ l. has_name l other ≡ true) l.is h)))
      (one listed name)

  one-only : (listed : List ObjectName) (name : ObjectName) → IsNew name → has_name (with_new k barred listed name) name ≡ true
  one-only listed name new = ⊎_elim
      (λ old. one-stays listed name name old)
      (λ n. subst (λ l. has_name l name ≡ true) (sym (no _ listed (listed ++ name ∷ []) (all_false new.not_added new.not_barred n)))
      (has-right same_name listed (name ∷ []) name (true_or (same_name name name) _ (name-self name))))
      (is_or_not (has_name listed name))
    where
      all_false : {a b c : Bool} → a ≡ false → b ≡ false → c ≡ false → (a || b || c) ≡ false
      all_false {a} {b} {c} p q r = ⊎_elim (λ t. absurd (three a b c p q r t)) (λ f. f.1.1.1) (by_test a b c)
        where
          three : (a b c : Bool) → a ≡ false → b ≡ false → c ≡ false → (a || b || c) ≡ true → ⊥
          three true b c p q r t = contradict true refl p
          three false true c p q r t = contradict true refl q
          three false false c p q r t = contradict c t r

  one-once : (listed : List ObjectName) (name : ObjectName) → IsDistinct same_name listed → IsDistinct same_name (with_new k barred listed name)
  one-once listed name all = ⊎_elim
      (λ e. subst (IsDistinct same_name) (sym e) all)
      (λ (l : IsLast listed name). subst (IsDistinct same_name) (sym l.is) (distinct_more listed name all l.not_listed))
      (one listed name)

  -- what is listed stays listed
  pub listed-stay : (listed : List ObjectName) (refs : List Ref) (other : ObjectName) → has_name listed other ≡ true →
      has_name (with_all_new k barred listed refs) other ≡ true
  listed-stay listed [] other h = h
  listed-stay listed (Value name ∷ refs) other h = listed-stay listed refs other h
  listed-stay listed (Out name index ∷ refs) other h = listed-stay (with_new k barred listed name) refs other (one-stays listed name other h)

  -- what is listed was so, or is the new thunk of a REF
  pub listed-found : (listed : List ObjectName) (refs : List Ref) (other : ObjectName) → has_name (with_all_new k barred listed refs) other ≡ true →
      (has_name listed other ≡ true) ⊎ (IsNew other × ((index : ℕ) × (has same_ref refs (Out other index) ≡ true)))
  listed-found listed [] other h = inl h
  listed-found listed (Value name ∷ refs) other h = ⊎_elim inl
      (λ n. inr (n.0, (n.1.0, or_right (same_ref (Out other n.1.0) (Value name)) _ n.1.1)))
      (listed-found listed refs other h)
  listed-found listed (Out name index ∷ refs) other h = ⊎_elim
      (λ m. ⊎_elim inl
      (λ n. inr (n.0, (index, true_or (same_ref (Out other index) (Out name index)) _ (here n.1))))
      (one-found listed name other m))
      (λ n. inr (n.0, (n.1.0, or_right (same_ref (Out other n.1.0) (Out name index)) _ n.1.1)))
      (listed-found (with_new k barred listed name) refs other h)
    where
      here : other ≡ name → same_ref (Out other index) (Out name index) ≡ true
      here e = subst (λ n. same_ref (Out other index) (Out n index) ≡ true) e (ref-self (Out other index))

  -- the new thunks of all REFs are listed
  pub listed-only : (listed : List ObjectName) (refs : List Ref) (other : ObjectName) (index : ℕ) → IsNew other → has same_ref refs (Out other index) ≡ true →
      has_name (with_all_new k barred listed refs) other ≡ true
  listed-only listed [] other index new h = absurd (grind (arith, h))
  listed-only listed (Value name ∷ refs) other index new h = ⊎_elim
      (λ s. absurd (grind (arith, s)))
      (λ m. listed-only listed refs other index new m)
      (has-cons same_ref (Value name) refs (Out other index) h)
  listed-only listed (Out name place ∷ refs) other index new h = ⊎_elim
      (λ s. listed-stay (with_new k barred listed name) refs other (here (ref-equal (Out other index) (Out name place) s)))
      (λ m. listed-only (with_new k barred listed name) refs other index new m)
      (has-cons same_ref (Out name place) refs (Out other index) h)
    where
      here : Out other index ≡ Out name place → has_name (with_new k barred listed name) other ≡ true
      here e = let is : other ≡ name = ap name_in e in
          subst (λ n. has_name (with_new k barred listed n) other ≡ true) is (one-only listed other new)

  -- each once
  pub listed-once : (listed : List ObjectName) (refs : List Ref) → IsDistinct same_name listed → IsDistinct same_name (with_all_new k barred listed refs)
  listed-once listed [] all = all
  listed-once listed (Value name ∷ refs) all = listed-once listed refs all
  listed-once listed (Out name index ∷ refs) all = listed-once (with_new k barred listed name) refs (one-once listed name all)

  -- where none is new the list stays
  pub listed-same : (listed : List ObjectName) (refs : List Ref) → ((name : ObjectName) (index : ℕ) → has same_ref refs (Out name index) ≡ true →
      (has_entry k.added name || has_name barred name || has_name listed name) ≡ true) → with_all_new k barred listed refs ≡ listed
  listed-same listed [] old = refl
  listed-same listed (Value name ∷ refs) old = listed-same listed refs (λ n i m. old n i (or_right (same_ref (Out n i) (Value name)) _ m))
  listed-same listed (Out name index ∷ refs) old =
      ap (λ l. with_all_new k barred l refs) (yes _ listed (listed ++ name ∷ []) (old name index (true_or (same_ref (Out name index) (Out name index)) _ (ref-self (Out name index)))))
      ∙ listed-same listed refs (λ n i m. old n i (or_right (same_ref (Out n i) (Out name index)) _ m))
