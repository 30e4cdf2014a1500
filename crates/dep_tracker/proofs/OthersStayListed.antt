-- A call is about one thunk: the others that are unknown or ready stay so.
use Rattle.std.proofs.Common.{◌≡◌, ◌⊎◌, inl, inr, ⊎_elim, ℕ, zero, suc, List, [], ◌∷◌, ◌++◌, Bool, true, false, Option, Some, None, is_some, slice_get, refl, sym, ap, ◌∙◌, subst, arith}
use Rattle.std.proofs.lemmas.Option.{none-some, same_Some}
use Rattle.std.specs.List.{AllByRecursion}
use Rattle.object_name.specs.declared.kind.Kind.TheVariants as kinds
use Rattle.object_name.specs.Name.{ObjectName}
use Rattle.thunk_codec.specs.declared.reference.Ref.{Ref}
use Rattle.thunk_codec.specs.declared.reference.Ref.TheVariants.{Value, Out}
use Rattle.thunk_codec.specs.Thunk.{Parts}
use Rattle.thunk_codec.specs.Resolved.{refs_of}
use Rattle.dep_tracker.specs.Known.{Known, same_name, has_name, has_entry, look_up, output_in, output_at}
use Rattle.dep_tracker.specs.Reach.{HasValue, given, output, yielded, IsValued}
use Rattle.dep_tracker.specs.Tracked.{Tracked, Call, Add, Absorb, Bar, thunk_of, Picks, none, taken, left, IsReady, AreReady, Follows, learn, barred_by, unknown_still}
use Rattle.dep_tracker.proofs.Booleans.{is_or_not, true_or, or_right}
use Rattle.dep_tracker.proofs.NamesAreCompared.{name-self, name-equal}
use Rattle.dep_tracker.proofs.WalksMeetReach.{has-cons}
use Rattle.dep_tracker.proofs.EntriesAreFound.{is_none}
use Rattle.dep_tracker.proofs.ReachGrows.{look_up-stays, entry-other, thunk_reach_grows}
use Rattle.dep_tracker.proofs.NewThunksAreListed.{listed-stay}
use Rattle.dep_tracker.proofs.BarringTakesOff.{without-only, barred-more}

module _ (absorbed : List (ObjectName × List ObjectName)) (entry : ObjectName × List ObjectName) where
  output-stays : (name : ObjectName) (index : ℕ) (value : ObjectName) → output_at absorbed name index ≡ Some value → output_at (absorbed ++ entry ∷ []) name index ≡ Some value
  output-stays name index value h = ⊎_elim
      (λ s. ap (λ o. output_in o index) (look_up-stays absorbed entry name s) ∙ h)
      (λ n. absurd (none-some value (sym (ap (λ o. output_in o index) (is_none (look_up absorbed name) n)) ∙ h)))
      (is_or_not (has_entry absorbed name))

  value-stays : (ref : Ref) (value : ObjectName) → HasValue absorbed ref value → HasValue (absorbed ++ entry ∷ []) ref value
  value-stays _ _ (given name) = given name
  value-stays _ _ (output name index value is kind) = output name index value (output-stays name index value is) kind
  value-stays _ _ (yielded name index inner value is kind deeper) =
      yielded name index inner value (output-stays name index inner is) kind (value-stays (Out inner 0) value deeper)

  values-stay : (refs : List Ref) → AllByRecursion (IsValued absorbed) refs → AllByRecursion (IsValued (absorbed ++ entry ∷ [])) refs
  values-stay [] all = tt
  values-stay (ref ∷ refs) all = ((all.0.0, value-stays ref all.0.0 all.0.1), values-stay refs all.1)

-- a thunk that is ready stays so when a call is about another one
ready-stays : (k : Known) (barred : List ObjectName) (call : Call) (entry : ObjectName × Parts) → same_name entry.0 (thunk_of call) ≡ false → IsReady k barred entry →
    IsReady (learn k call) (barred_by barred call) entry
ready-stays k barred (Add name thunk) entry other r = record {
  in_reach = thunk_reach_grows k (Add name thunk) entry.0 r.in_reach;
  values = r.values;
  not_absorbed = r.not_absorbed;
  not_barred = r.not_barred;
}
ready-stays k barred (Absorb name outputs) entry other r = record {
  in_reach = thunk_reach_grows k (Absorb name outputs) entry.0 r.in_reach;
  values = values-stay k.absorbed (name, outputs) (refs_of entry.1) r.values;
  not_absorbed = entry-other k.absorbed name entry.0 outputs r.not_absorbed other;
  not_barred = r.not_barred;
}
ready-stays k barred (Bar name) entry other r = record {
  in_reach = r.in_reach;
  values = r.values;
  not_absorbed = r.not_absorbed;
  not_barred = barred-more barred name entry.0 r.not_barred other;
}

-- an entry that stands in a list of entries and holds
record StandsAt (P : ObjectName × Parts → Type 0) (entries : List (ObjectName × Parts)) (name : ObjectName) : Type 0 where
  pub place : ℕ
  pub entry : ObjectName × Parts
  pub is : slice_get entries place ≡ Some entry
  pub holds : P entry
  pub named : name ≡ entry.0

module _ (P : ObjectName × Parts → Type 0) where
  later : (e : ObjectName × Parts) (entries : List (ObjectName × Parts)) (name : ObjectName) → StandsAt P entries name → StandsAt P (e ∷ entries) name
  later e entries name s = record { place = suc s.place; entry = s.entry; is = s.is; holds = s.holds; named = s.named }

  picks-stands : (entries : List (ObjectName × Parts)) (names : List ObjectName) (name : ObjectName) → Picks P entries names → has_name names name ≡ true → StandsAt P entries name
  picks-stands _ _ name none h = absurd (grind (arith, h))
  picks-stands _ _ name (taken e entries names p picks) h = ⊎_elim
      (λ s. record { place = zero; entry = e; is = refl; holds = p; named = name-equal name e.0 s })
      (λ m. later e entries name (picks-stands entries names name picks m))
      (has-cons same_name e.0 names name h)
  picks-stands _ _ name (left e entries names n picks) h = later e entries name (picks-stands entries names name picks h)

  picks-has : (entries : List (ObjectName × Parts)) (names : List ObjectName) (place : ℕ) (entry : ObjectName × Parts) → Picks P entries names →
      slice_get entries place ≡ Some entry → P entry → has_name names entry.0 ≡ true
  picks-has _ _ place entry none is p = absurd (none-some entry is)
  picks-has _ _ zero entry (taken e entries names q picks) is p =
      true_or _ _ (subst (λ (x : ObjectName × Parts). same_name entry.0 x.0 ≡ true) (sym (same_Some _ _ is)) (name-self entry.0))
  picks-has _ _ (suc place) entry (taken e entries names q picks) is p = or_right (same_name entry.0 e.0) _ (picks-has entries names place entry picks is p)
  picks-has _ _ zero entry (left e entries names n picks) is p = absurd (n (subst P (sym (same_Some _ _ is)) p))
  picks-has _ _ (suc place) entry (left e entries names n picks) is p = picks-has entries names place entry picks is p

slice_get-append : {A : Type 0} (xs ys : List A) (place : ℕ) (x : A) → slice_get xs place ≡ Some x → slice_get (xs ++ ys) place ≡ Some x
slice_get-append [] ys place x is = absurd (none-some x is)
slice_get-append (z ∷ xs) ys zero x is = is
slice_get-append (z ∷ xs) ys (suc place) x is = slice_get-append xs ys place x is

added-stays : (k : Known) (call : Call) (place : ℕ) (entry : ObjectName × Parts) → slice_get k.added place ≡ Some entry → slice_get (learn k call).added place ≡ Some entry
added-stays k (Add name thunk) place entry is = slice_get-append k.added ((name, thunk) ∷ []) place entry is
added-stays k (Absorb name outputs) place entry is = is
added-stays k (Bar name) place entry is = is

still-unknown : (unknown : List ObjectName) (call : Call) (name : ObjectName) → has_name unknown name ≡ true → same_name name (thunk_of call) ≡ false →
    has_name (unknown_still unknown call) name ≡ true
still-unknown unknown (Add added thunk) name h other = without-only unknown added name h other
still-unknown unknown (Absorb absorbed outputs) name h other = h
still-unknown unknown (Bar barred) name h other = without-only unknown barred name h other

module _ (t : Tracked) (call : Call) (after : Tracked) (follows : Follows t call after) (name : ObjectName) (other : same_name name (thunk_of call) ≡ false) where
  -- an unknown thunk that a call isn't about stays unknown
  pub unknown-stays : has_name t.unknown name ≡ true → has_name after.unknown name ≡ true
  unknown-stays h = subst (λ l. has_name l name ≡ true) (sym follows.unknown)
      (listed-stay (learn t.known call) (barred_by t.barred call) (unknown_still t.unknown call) follows.reach name (still-unknown t.unknown call name h other))

  -- and a ready one stays ready
  pub others-ready : AreReady t.known t.barred t.ready → has_name t.ready name ≡ true → has_name after.ready name ≡ true
  others-ready ready h =
      let s = picks-stands (IsReady t.known t.barred) t.known.added t.ready name ready h in
      subst (λ n. has_name after.ready n ≡ true) (sym s.named)
      (picks-has (IsReady (learn t.known call) (barred_by t.barred call)) (learn t.known call).added after.ready s.place s.entry follows.ready
      (added-stays t.known call s.place s.entry s.is)
      (ready-stays t.known t.barred call s.entry (subst (λ n. same_name n (thunk_of call) ≡ false) s.named other) s.holds))
