-- Which thunks are ready, and which entries are picked.
use Rattle.std.proofs.Common.{◌≡◌, ⊎_elim, ℕ, ◌+◌, take, slice_get, Some, List, [], ◌∷◌, ◌++◌, map, Bool, true, false, refl, sym, ap, subst, arith}
use Rattle.std.specs.List.{AllByRecursion}
use Rattle.object_name.specs.Name.{ObjectName}
use Rattle.thunk_codec.specs.declared.reference.Ref.{Ref}
use Rattle.thunk_codec.specs.Thunk.{Parts}
use Rattle.dep_tracker.specs.Known.{Known, has_entry, has_name, same_name}
use Rattle.dep_tracker.specs.Reach.{IsThunkInReach, IsValued}
use Rattle.dep_tracker.specs.Tracked.{IsReady, Picks, none, taken, left}
use Rattle.dep_tracker.specs.Listing.{Tells, PicksMore}
use Rattle.dep_tracker.proofs.Booleans.{contradict, true_or}
use Rattle.dep_tracker.proofs.EntriesAreFound.{take-next}
use Rattle.dep_tracker.proofs.NamesAreCompared.{name-equal}
use Rattle.dep_tracker.proofs.WalksMeetReach.{has-cons}

module _ (k : Known) (barred : List ObjectName) (name : ObjectName) (thunk : Parts) where
  pub was_absorbed : has_entry k.absorbed name ≡ true → ¬ (IsReady k barred (name, thunk))
  was_absorbed h r = contradict _ h r.not_absorbed

  pub was_barred : has_name barred name ≡ true → ¬ (IsReady k barred (name, thunk))
  was_barred h r = contradict _ h r.not_barred

  pub no_function : Tells (IsValued k.absorbed thunk.function) false → ¬ (IsReady k barred (name, thunk))
  no_function h r = h r.values.0

  pub ready : (b : Bool) → IsThunkInReach k name → has_entry k.absorbed name ≡ false → has_name barred name ≡ false → IsValued k.absorbed thunk.function →
      Tells (AllByRecursion (IsValued k.absorbed) (map (λ input. input.1) thunk.inputs)) b → Tells (IsReady k barred (name, thunk)) b
  ready true n a b f i = record { in_reach = n; values = (f, i); not_absorbed = a; not_barred = b }
  ready false n a b f i = λ r. i r.values.1

module _ (P : ObjectName × Parts → Type 0) where
  pub picks_taken : (entries : List (ObjectName × Parts)) (names : List ObjectName) (e : ObjectName × Parts) → Picks P entries names → P e →
      Picks P (entries ++ e ∷ []) (names ++ e.0 ∷ [])
  picks_taken _ _ e none p = taken e [] [] p none
  picks_taken _ _ e (taken x entries names h picks) p = taken x (entries ++ e ∷ []) (names ++ e.0 ∷ []) h (picks_taken entries names e picks p)
  picks_taken _ _ e (left x entries names h picks) p = left x (entries ++ e ∷ []) (names ++ e.0 ∷ []) h (picks_taken entries names e picks p)

  pub picks_left : (entries : List (ObjectName × Parts)) (names : List ObjectName) (e : ObjectName × Parts) → Picks P entries names → ¬ (P e) →
      Picks P (entries ++ e ∷ []) names
  picks_left _ _ e none p = left e [] [] p none
  picks_left _ _ e (taken x entries names h picks) p = taken x (entries ++ e ∷ []) names h (picks_left entries names e picks p)
  picks_left _ _ e (left x entries names h picks) p = left x (entries ++ e ∷ []) names h (picks_left entries names e picks p)

  pub picks_none : (entries : List (ObjectName × Parts)) (names : List ObjectName) → entries ≡ [] → names ≡ [] → Picks P entries names
  picks_none entries names e f = subst (λ l. Picks P l names) (sym e) (subst (Picks P []) (sym f) none)

  pub more_taken : (e : ObjectName × Parts) (names more : List ObjectName) → P e → more ≡ names ++ e.0 ∷ [] → PicksMore P e names more
  more_taken e names more p same entries picks = subst (Picks P (entries ++ e ∷ [])) (sym same) (picks_taken entries names e picks p)

  pub more_left : (e : ObjectName × Parts) (names : List ObjectName) → ¬ (P e) → PicksMore P e names names
  more_left e names p entries picks = picks_left entries names e picks p

  -- what is picked of some first entries, and of one more
  pub picks_next : (entries : List (ObjectName × Parts)) (place : ℕ) (entry : ObjectName × Parts) (names more : List ObjectName) → slice_get entries place ≡ Some entry →
      Picks P (take place entries) names → PicksMore P entry names more → Picks P (take (place + 1) entries) more
  picks_next entries place entry names more at picks goes =
      subst (λ l. Picks P l more) (sym (take-next entries place entry at)) (goes (take place entries) picks)

  -- one list is picked
  pub picks_one : (entries : List (ObjectName × Parts)) (names others : List ObjectName) → Picks P entries names → Picks P entries others → names ≡ others
  picks_one _ _ _ none none = refl
  picks_one _ _ _ (taken e entries names p picks) (taken _ _ others _ more) = ap (λ l. e.0 ∷ l) (picks_one entries names others picks more)
  picks_one _ _ _ (taken e entries names p picks) (left _ _ _ n more) = absurd (n p)
  picks_one _ _ _ (left e entries names n picks) (taken _ _ _ p more) = absurd (n p)
  picks_one _ _ _ (left e entries names n picks) (left _ _ others _ more) = picks_one entries names others picks more

  -- an entry of each name that is picked holds
  pub picks_holds : (entries : List (ObjectName × Parts)) (names : List ObjectName) (name : ObjectName) → Picks P entries names → has_name names name ≡ true →
      (entry : ObjectName × Parts) × (P entry × (name ≡ entry.0))
  picks_holds _ _ name none h = absurd (grind (arith, h))
  picks_holds _ _ name (taken e entries names p picks) h = ⊎_elim
      (λ s. (e, (p, name-equal name e.0 s)))
      (λ m. picks_holds entries names name picks m)
      (has-cons same_name e.0 names name h)
  picks_holds _ _ name (left e entries names n picks) h = picks_holds entries names name picks h
