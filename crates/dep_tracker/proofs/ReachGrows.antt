-- What is in reach stays so when more is known.
use Rattle.std.proofs.Common.{◌≡◌, ◌⊎◌, inl, inr, ⊎_elim, ℕ, List, [], ◌∷◌, ◌++◌, Bool, true, false, cond, Option, Some, None, is_some, refl, sym, ap, ◌∙◌, subst, arith}
use Rattle.object_name.specs.Name.{ObjectName}
use Rattle.thunk_codec.specs.declared.reference.Ref.{Ref}
use Rattle.thunk_codec.specs.declared.reference.Ref.TheVariants.{Value, Out}
use Rattle.thunk_codec.specs.Thunk.{Parts}
use Rattle.dep_tracker.specs.Walk.{has, Reachable, root, after}
use Rattle.dep_tracker.specs.Known.{Known, same_name, same_ref, look_up, has_entry, refs_in, output_in, output_at}
use Rattle.dep_tracker.specs.Reach.{leads_to, yield_of, IsInReach, IsThunkInReach}
use Rattle.dep_tracker.specs.Tracked.{Call, Add, Absorb, Bar, learn}
use Rattle.dep_tracker.proofs.Booleans.{is_or_not, contradict, untrue}
use Rattle.dep_tracker.proofs.EntriesAreFound.{is_none}
use Rattle.dep_tracker.proofs.WalksMeetReach.{has-left, has-right, has-split}

module _ {A : Type 0} where
  found_first : (test : Bool) (v : A) (rest more : Option A) → (is_some rest ≡ true → more ≡ rest) → is_some (cond test (Some v) rest) ≡ true →
      cond test (Some v) more ≡ cond test (Some v) rest
  found_first true v rest more same h = refl
  found_first false v rest more same h = same h

  found_last : (test : Bool) (v : A) (rest more last : Option A) → (is_some rest ≡ false → more ≡ last) → is_some (cond test (Some v) rest) ≡ false →
      cond test (Some v) more ≡ last
  found_last true v rest more last same h = absurd (grind (arith, h))
  found_last false v rest more last same h = same h

  -- what stands beside a name still does when an entry comes last
  pub look_up-stays : (entries : List (ObjectName × A)) (entry : ObjectName × A) (name : ObjectName) → has_entry entries name ≡ true →
      look_up (entries ++ entry ∷ []) name ≡ look_up entries name
  look_up-stays [] entry name h = absurd (grind (arith, h))
  look_up-stays (e ∷ entries) entry name h = found_first (same_name name e.0) e.1 _ _ (look_up-stays entries entry name) h

  -- and what comes last is found where nothing else is
  pub look_up-last : (entries : List (ObjectName × A)) (entry : ObjectName × A) (name : ObjectName) → has_entry entries name ≡ false →
      look_up (entries ++ entry ∷ []) name ≡ look_up (entry ∷ []) name
  look_up-last [] entry name h = refl
  look_up-last (e ∷ entries) entry name h = found_last (same_name name e.0) e.1 _ _ _ (look_up-last entries entry name) h

  pub single-has : (name other : ObjectName) (value : A) → has_entry ((name, value) ∷ []) other ≡ true → same_name other name ≡ true
  single-has name other value h = by (same_name other name) h
    where
      by : (b : Bool) → is_some (cond b (Some value) None) ≡ true → b ≡ true
      by true h = refl
      by false h = absurd (grind (arith, h))

  -- what isn't there still isn't when another comes last
  pub entry-other : (entries : List (ObjectName × A)) (name other : ObjectName) (value : A) → has_entry entries other ≡ false → same_name other name ≡ false →
      has_entry (entries ++ (name, value) ∷ []) other ≡ false
  entry-other entries name other value h differ =
      untrue _ (λ s. contradict _ (single-has name other value (ap is_some (sym (look_up-last entries (name, value) other h)) ∙ s)) differ)

  -- what some reading gives of what stands beside a name, and nothing of nothing, it still gives
  read-stays : (read : Option A → List Ref) → read None ≡ [] → (entries : List (ObjectName × A)) (entry : ObjectName × A) (name : ObjectName) (ref : Ref) →
      has same_ref (read (look_up entries name)) ref ≡ true → has same_ref (read (look_up (entries ++ entry ∷ []) name)) ref ≡ true
  read-stays read empty entries entry name ref h = ⊎_elim
      (λ s. subst (λ o. has same_ref (read o) ref ≡ true) (sym (look_up-stays entries entry name s)) h)
      (λ n. absurd (grind (arith, subst (λ l. has same_ref l ref ≡ true) empty (subst (λ o. has same_ref (read o) ref ≡ true) (is_none _ n) h))))
      (is_or_not (has_entry entries name))

module _ {A : Type 0} (same : A → A → Bool) (next wider : A → List A)
    (grows : (x y : A) → has same (next x) y ≡ true → has same (wider x) y ≡ true) (roots : List A) where
  -- what is reachable stays so where each node leads to more
  pub reachable_grows : (x : A) → Reachable same next roots x → Reachable same wider roots x
  reachable_grows _ (root x h) = root x h
  reachable_grows _ (after x y r h) = after x y (reachable_grows x r) (grows x y h)

module _ (k : Known) where
  -- after each call a REF leads to what it led to
  pub leads_grow : (call : Call) (x y : Ref) → has same_ref (leads_to k.absorbed k.added x) y ≡ true →
      has same_ref (leads_to (learn k call).absorbed (learn k call).added x) y ≡ true
  leads_grow call (Value name) y h = absurd (grind (arith, h))
  leads_grow (Add added thunk) (Out name index) y h = ⊎_elim
      (λ r. has-left same_ref _ _ y (read-stays refs_in refl k.added (added, thunk) name y r))
      (λ r. has-right same_ref (refs_in (look_up (k.added ++ (added, thunk) ∷ []) name)) _ y r)
      (has-split same_ref (refs_in (look_up k.added name)) _ y h)
  leads_grow (Absorb absorbed outputs) (Out name index) y h = ⊎_elim
      (λ r. has-left same_ref _ _ y r)
      (λ r. has-right same_ref (refs_in (look_up k.added name)) _ y
      (read-stays (λ o. yield_of (output_in o index)) refl k.absorbed (absorbed, outputs) name y r))
      (has-split same_ref (refs_in (look_up k.added name)) _ y h)
  leads_grow (Bar barred) (Out name index) y h = h

  -- and what is in reach stays so
  pub reach_grows : (call : Call) (ref : Ref) → IsInReach k ref → IsInReach (learn k call) ref
  reach_grows (Add name thunk) ref r = reachable_grows same_ref _ _ (leads_grow (Add name thunk)) k.roots ref r
  reach_grows (Absorb name outputs) ref r = reachable_grows same_ref _ _ (leads_grow (Absorb name outputs)) k.roots ref r
  reach_grows (Bar name) ref r = r

  pub thunk_reach_grows : (call : Call) (name : ObjectName) → IsThunkInReach k name → IsThunkInReach (learn k call) name
  thunk_reach_grows call name r = (r.0, reach_grows call (Out name r.0) r.1)
