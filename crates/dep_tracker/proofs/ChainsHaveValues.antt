-- Chains of yields.
use Rattle.std.proofs.Common.{◌≡◌, ◌≢◌, ◌⊎◌, ℕ, List, [], ◌∷◌, ◌++◌, Bool, true, false, Option, Some, None, refl, sym, ap, ◌∙◌, subst, inl, inr, ⊎_elim, arith}
use Rattle.std.proofs.lemmas.Option.{none-some, same_Some}
use Rattle.object_name.specs.declared.kind.Kind.{Kind}
use Rattle.object_name.specs.declared.kind.Kind.TheVariants as kinds
use Rattle.object_name.specs.Name.{ObjectName}
use Rattle.thunk_codec.specs.declared.reference.Ref.{Ref}
use Rattle.thunk_codec.specs.declared.reference.Ref.TheVariants.{Value, Out}
use Rattle.dep_tracker.specs.Walk.{has}
use Rattle.dep_tracker.proofs.Booleans.{true_or}
use Rattle.dep_tracker.proofs.WalksMeetReach.{has-left, has-right, has-split, has-cons}
use Rattle.dep_tracker.specs.Known.{output_at, same_ref}
use Rattle.dep_tracker.specs.Reach.{HasValue, given, output, yielded, IsValued}
use Rattle.dep_tracker.specs.Chain.{IsYield, IsChain}

abbrev IsValueKind : Kind → Type 0
IsValueKind kinds.Value = Unit {0}
IsValueKind kinds.Thunk = ⊥

kinds-differ : (k : Kind) → k ≡ kinds.Value → k ≡ kinds.Thunk → ⊥
kinds-differ k v t = subst IsValueKind (sym v ∙ t) tt

abbrev IsOut : Ref → Type 0
IsOut (Value name) = ⊥
IsOut (Out name index) = Unit {0}

-- the name in a REF
abbrev pub name_in : Ref → ObjectName
name_in (Value name) = name
name_in (Out name index) = name

abbrev index_in : Ref → ℕ
index_in (Value name) = 0
index_in (Out name index) = index

module _ (absorbed : List (ObjectName × List ObjectName)) where
  -- what an output of the yield is
  output_of_yield : (name : ObjectName) (index : ℕ) (next : Ref) (y : IsYield absorbed (Out name index) next) → output_at absorbed name index ≡ Some y.inner
  output_of_yield name index next y =
      ap (λ n. output_at absorbed n index) (ap name_in y.is) ∙ ap (output_at absorbed y.name) (ap index_in y.is) ∙ y.output

  -- REFs of which each yields another of them have no values
  pub no_values : (P : Ref → Type 0) → ((x : Ref) → P x → (y : Ref) × IsYield absorbed x y × P y) → (x : Ref) (v : ObjectName) → HasValue absorbed x v → ¬ (P x)
  no_values P step _ _ (given name) p = subst IsOut (sym (step (Value name) p).1.is) tt
  no_values P step _ _ (output name index value is kind) p =
      let y = step (Out name index) p in
      let same : value ≡ y.1.inner = same_Some _ _ (sym is ∙ output_of_yield name index y.0 y.1) in
      kinds-differ value.kind kind (ap (λ (n : ObjectName). n.kind) same ∙ y.1.kind)
  no_values P step _ _ (yielded name index inner value is kind deeper) p =
      let y = step (Out name index) p in
      let same : inner ≡ y.1.inner = same_Some _ _ (sym is ∙ output_of_yield name index y.0 y.1) in
      no_values P step (Out inner 0) value deeper (subst P (y.1.yields ∙ ap (λ n. Out n 0) (sym same)) y.2)

  -- a yield has the value of the next
  pub yield-back : (x y : Ref) → IsYield absorbed x y → IsValued absorbed y → IsValued absorbed x
  yield-back x y i v = (
    v.0,
    subst (λ r. HasValue absorbed r v.0) (sym i.is)
        (yielded i.name i.index i.inner v.0 i.output i.kind (subst (λ r. HasValue absorbed r v.0) i.yields v.1)),
  )

  onward_from : (x y : Ref) (v : ObjectName) → HasValue absorbed x v → IsYield absorbed x y → HasValue absorbed y v
  onward_from _ y _ (given name) i = absurd (subst IsOut (sym i.is) tt)
  onward_from _ y _ (output name index value is kind) i =
      absurd (kinds-differ value.kind kind (ap (λ (n : ObjectName). n.kind) (same_Some _ _ (sym is ∙ output_of_yield name index y i)) ∙ i.kind))
  onward_from _ y _ (yielded name index inner value is kind deeper) i =
      subst (λ r. HasValue absorbed r value) (ap (λ n. Out n 0) (same_Some _ _ (sym is ∙ output_of_yield name index y i)) ∙ sym i.yields) deeper

  pub yield-onward : (x y : Ref) → IsYield absorbed x y → IsValued absorbed x → IsValued absorbed y
  yield-onward x y i v = (v.0, onward_from x y v.0 v.1 i)

  -- where there is no output there is no value
  none_broken : (x : Ref) (v : ObjectName) → HasValue absorbed x v → (name : ObjectName) (index : ℕ) → x ≡ Out name index → output_at absorbed name index ≡ None → ⊥
  none_broken _ _ (given other) name index e none = subst IsOut (sym e) tt
  none_broken _ _ (output other place value is kind) name index e none =
      none-some value (sym none ∙ sym (ap (λ n. output_at absorbed n place) (ap name_in e) ∙ ap (output_at absorbed name) (ap index_in e)) ∙ is)
  none_broken _ _ (yielded other place inner value is kind deeper) name index e none =
      none-some inner (sym none ∙ sym (ap (λ n. output_at absorbed n place) (ap name_in e) ∙ ap (output_at absorbed name) (ap index_in e)) ∙ is)

  pub broken_none : (name : ObjectName) (index : ℕ) → output_at absorbed name index ≡ None → ¬ (IsValued absorbed (Out name index))
  broken_none name index none v = none_broken (Out name index) v.0 v.1 name index refl none

  pub ends_value : (name : ObjectName) (index : ℕ) (value : ObjectName) → output_at absorbed name index ≡ Some value → value.kind ≡ kinds.Value →
      IsValued absorbed (Out name index)
  ends_value name index value is kind = (value, output name index value is kind)

  -- a chain begins
  pub chain_begins : (x : Ref) → IsChain absorbed x [] x
  chain_begins x = record { links = λ y h. grind arith; onward = λ v. v; back = λ v. v }

  -- a chain goes on, from a link that was not seen
  pub chain_goes : (x here next : Ref) (seen more : List Ref) → ((a b : Ref) → same_ref a b ≡ true → a ≡ b) → ((a : Ref) → same_ref a a ≡ true) →
      IsChain absorbed x seen here → IsYield absorbed here next → more ≡ seen ++ here ∷ [] → IsChain absorbed x more next
  chain_goes x here next seen more equal self chain i e = subst (λ s. IsChain absorbed x s next) (sym e) (record {
    links = λ z h. ⊎_elim
        (λ old. let y = chain.links z old in (
          y.0,
          y.1,
          inl (⊎_elim (λ s. has-left same_ref seen (here ∷ []) y.0 s)
              (λ same. has-right same_ref seen (here ∷ []) y.0 (true_or (same_ref y.0 here) false (subst (λ a. same_ref a here ≡ true) (sym same) (self here)))) y.2),
        ))
        (λ last. let same = equal z here (⊎_elim (λ u. u) (λ f. grind arith) (has-cons same_ref here [] z last)) in
        (next, subst (λ a. IsYield absorbed a next) (sym same) i, inr refl))
        (has-split same_ref seen (here ∷ []) z h);
    onward = λ v. yield-onward here next i (chain.onward v);
    back = λ v. chain.back (yield-back here next i v);
  })

  -- a chain that comes to a link that was seen has no value
  pub chain_turns : (x here : Ref) (seen : List Ref) → IsChain absorbed x seen here → has same_ref seen here ≡ true → ¬ (IsValued absorbed x)
  chain_turns x here seen chain old v =
      let w = chain.onward v in
      no_values (λ r. has same_ref seen r ≡ true)
      (λ r h. let y = chain.links r h in (y.0, y.1, ⊎_elim (λ s. s) (λ same. subst (λ a. has same_ref seen a ≡ true) (sym same) old) y.2))
      here w.0 w.1 old
