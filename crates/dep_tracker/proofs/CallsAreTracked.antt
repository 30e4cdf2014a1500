-- After each call, what is unknown and ready is so by what is in reach.
use Rattle.std.proofs.Common.{◌≡◌, ◌⊎◌, inl, inr, ⊎_elim, ℕ, List, [], ◌∷◌, ◌++◌, Bool, true, false, ◌||◌, is_some, cond, Some, None, Result, IfOk, refl, sym, ap, ◌∙◌, subst, arith}
use Rattle.std.specs.List.{IsDistinct}
use Rattle.object_name.specs.Name.{ObjectName}
use Rattle.thunk_codec.specs.declared.reference.Ref.{Ref}
use Rattle.thunk_codec.specs.declared.reference.Ref.TheVariants.{Value, Out}
use Rattle.thunk_codec.specs.Thunk.{Parts}
use Rattle.dep_tracker.specs.Walk.{has, ended}
use Rattle.dep_tracker.specs.Known.{Known, begun, same_name, same_ref, has_name, has_entry, look_up}
use Rattle.dep_tracker.specs.Reach.{IsThunkInReach, IsReach, leads_to}
use Rattle.dep_tracker.specs.Tracked.{Tracked, Call, Add, Absorb, Bar, IsUnknown, AreUnknown, IsReady, AreReady, AreAddedInReach, IsTracked, Picks, none, Lists, Follows, MayCall, learn, barred_by, unknown_still, with_all_new, without}
use Rattle.dep_tracker.specs.Listing.{AreListed}
use Rattle.dep_tracker.proofs.Booleans.{is_or_not, contradict, or_false, untrue}
use Rattle.dep_tracker.proofs.NamesAreCompared.{name-self, name-equal, ref-self, ref-equal}
use Rattle.dep_tracker.proofs.WalksMeetReach.{has-append, meets, only}
use Rattle.dep_tracker.proofs.ReachGrows.{look_up-last, single-has, entry-other, thunk_reach_grows}
use Rattle.dep_tracker.proofs.NewThunksAreListed.{IsNew, listed-stay, listed-found, listed-only, listed-once, listed-same}
use Rattle.dep_tracker.proofs.BarringTakesOff.{without-found, without-only, without-distinct, barred-more, picks-barred}
use Rattle.dep_tracker.proofs.ThunksAreReady.{picks_holds}

module _ (k : Known) (barred listed : List ObjectName) (reach : List Ref) (walk : IsReach k reach) (before : AreListed k barred listed) where
  found_by : (name : ObjectName) → (has_name listed name ≡ true) ⊎ (IsNew k barred name × ((index : ℕ) × (has same_ref reach (Out name index) ≡ true))) →
      IsUnknown k barred name
  found_by name (inl was) = before.found name was
  found_by name (inr new) = record {
    in_reach = (new.1.0, only same_ref (leads_to k.absorbed k.added) ref-equal ref-self k.roots reach (Out name new.1.0) walk new.1.1);
    not_added = new.0.not_added;
    not_barred = new.0.not_barred;
  }

  -- the unknown thunks that were listed and those that are new in reach are all that are unknown
  pub unknown-listed : AreUnknown k barred (with_all_new k barred listed reach)
  unknown-listed = record {
    found = λ name h. found_by name (listed-found k barred listed reach name h);
    only = λ name u. listed-only k barred listed reach name u.in_reach.0 (record { not_added = u.not_added; not_barred = u.not_barred })
        (meets same_ref (leads_to k.absorbed k.added) ref-equal ref-self k.roots reach (Out name u.in_reach.0) walk u.in_reach.1);
    once = listed-once k barred listed reach before.once;
  }

-- what was listed is tracked
pub lists-tracked : (k : Known) (barred listed : List ObjectName) (t : Tracked) → AreListed k barred listed → Lists k barred listed t → IsTracked t
lists-tracked k barred listed t before l = record {
  reach = l.reach;
  walk = subst (λ k. IsReach k l.reach) (sym l.same_known) l.walk;
  unknown = subst (λ k. AreUnknown k t.barred t.unknown) (sym l.same_known) (subst (λ b. AreUnknown k b t.unknown) (sym l.same_barred)
      (subst (AreUnknown k barred) (sym l.unknown) (unknown-listed k barred listed l.reach l.walk before)));
  ready = subst (λ k. AreReady k t.barred t.ready) (sym l.same_known) (subst (λ b. AreReady k b t.ready) (sym l.same_barred) l.ready);
  added = subst AreAddedInReach (sym l.same_known) before.added;
}

-- at the beginning nothing is listed
pub listed-begun : (roots : List Ref) → AreListed (begun roots) [] []
unfolding IsDistinct
listed-begun roots = record { found = λ name h. absurd (grind (arith, h)); once = tt; added = λ name h. absurd (grind (arith, h)) }

-- nothing is tracked
pub nothing-tracked : (k : Known) (barred unknown ready : List ObjectName) → k ≡ begun [] → barred ≡ [] → unknown ≡ [] → ready ≡ [] →
    IsTracked (record { known = k; barred = barred; unknown = unknown; ready = ready })
nothing-tracked k barred unknown ready e f g h =
    lists-tracked (begun []) [] [] _ (listed-begun []) (record { same_known = e; same_barred = f; reach = []; walk = ended []; unknown = g; ready = subst (Picks _ []) (sym h) none })

module _ (t : Tracked) (tracked : IsTracked t) where
  grown : (call : Call) (barred : List ObjectName) (name : ObjectName) → has_entry (learn t.known call).added name ≡ false → has_name barred name ≡ false →
      IsThunkInReach t.known name → IsUnknown (learn t.known call) barred name
  grown call barred name a b r = record { in_reach = thunk_reach_grows t.known call name r; not_added = a; not_barred = b }

  -- what is added was, or is added now
  added-more : (name other : ObjectName) (thunk : Parts) → has_entry (t.known.added ++ (name, thunk) ∷ []) other ≡ true →
      (has_entry t.known.added other ≡ true) ⊎ (other ≡ name)
  added-more name other thunk h = ⊎_elim inl
      (λ n. inr (name-equal other name (single-has name other thunk (ap is_some (sym (look_up-last t.known.added (name, thunk) other n)) ∙ h))))
      (is_or_not (has_entry t.known.added other))

  -- what was unknown and is so after a call is listed
  pub listed-still : (call : Call) → MayCall t call → AreListed (learn t.known call) (barred_by t.barred call) (unknown_still t.unknown call)
  listed-still (Add name thunk) may = record {
    found = λ other h. let was = without-found t.unknown name other h in let u = tracked.unknown.found other was.0 in
        grown (Add name thunk) t.barred other (entry-other t.known.added name other thunk u.not_added was.1) u.not_barred u.in_reach;
    once = without-distinct t.unknown name tracked.unknown.once;
    added = λ other h. thunk_reach_grows t.known (Add name thunk) other (⊎_elim (tracked.added other)
        (λ e. subst (IsThunkInReach t.known) (sym e) (tracked.unknown.found name may).in_reach) (added-more name other thunk h));
  }
  listed-still (Absorb name outputs) may = record {
    found = λ other h. let u = tracked.unknown.found other h in grown (Absorb name outputs) t.barred other u.not_added u.not_barred u.in_reach;
    once = tracked.unknown.once;
    added = λ other h. thunk_reach_grows t.known (Absorb name outputs) other (tracked.added other h);
  }
  listed-still (Bar name) may = record {
    found = λ other h. let was = without-found t.unknown name other h in let u = tracked.unknown.found other was.0 in
        grown (Bar name) (t.barred ++ name ∷ []) other u.not_added (barred-more t.barred name other u.not_barred was.1) u.in_reach;
    once = without-distinct t.unknown name tracked.unknown.once;
    added = tracked.added;
  }

  pub tracked-after : (call : Call) (after : Tracked) → MayCall t call → Follows t call after → IsTracked after
  tracked-after call after may follows = lists-tracked (learn t.known call) (barred_by t.barred call) (unknown_still t.unknown call) after (listed-still call may) follows

  -- a thunk that may be added wasn't, one that may be absorbed wasn't, and one that may be barred wasn't
  pub add-new : (name : ObjectName) → has_name t.unknown name ≡ true → has_entry t.known.added name ≡ false
  add-new name h = (tracked.unknown.found name h).not_added

  pub absorb-new : (name : ObjectName) → has_name t.ready name ≡ true → has_entry t.known.absorbed name ≡ false
  absorb-new name h =
      let e = picks_holds (IsReady t.known t.barred) t.known.added t.ready name tracked.ready h in
      subst (λ n. has_entry t.known.absorbed n ≡ false) (sym e.1.1) e.1.0.not_absorbed

  pub bar-new : (name : ObjectName) → (has_name t.unknown name ≡ true) ⊎ (has_name t.ready name ≡ true) → has_name t.barred name ≡ false
  bar-new name (inl h) = (tracked.unknown.found name h).not_barred
  bar-new name (inr h) =
      let e = picks_holds (IsReady t.known t.barred) t.known.added t.ready name tracked.ready h in
      subst (λ n. has_name t.barred n ≡ false) (sym e.1.1) e.1.0.not_barred

  -- what is barred now, and what was unknown and differs
  module _ (name : ObjectName) where
    old-barred : (other : ObjectName) (index : ℕ) → has same_ref tracked.reach (Out other index) ≡ true →
        (has_entry t.known.added other || has_name (t.barred ++ name ∷ []) other || has_name (without t.unknown name) other) ≡ true
    old-barred other index h = by (has_entry t.known.added other) (has_name (t.barred ++ name ∷ []) other) refl refl
      where
        by : (a b : Bool) → has_entry t.known.added other ≡ a → has_name (t.barred ++ name ∷ []) other ≡ b →
            (a || b || has_name (without t.unknown name) other) ≡ true
        by true b p q = refl
        by false true p q = refl
        by false false p q = without-only t.unknown name other (tracked.unknown.only other (record {
          in_reach = (index, only same_ref (leads_to t.known.absorbed t.known.added) ref-equal ref-self t.known.roots tracked.reach (Out other index) tracked.walk h);
          not_added = p;
          not_barred = (barred-fewer q).0;
        })) (barred-fewer q).1
          where
            barred-fewer : has_name (t.barred ++ name ∷ []) other ≡ false → (has_name t.barred other ≡ false) × (same_name other name ≡ false)
            barred-fewer f =
                let p = or_false (has_name t.barred other) (has_name (name ∷ []) other) (sym (has-append same_name t.barred (name ∷ []) other) ∙ f) in
                (p.0, (or_false (same_name other name) false p.1).0)

    -- barring a thunk brings nothing new into reach
    pub barred-follows : (after : Tracked) → after.known ≡ t.known → after.barred ≡ t.barred ++ name ∷ [] → after.unknown ≡ without t.unknown name →
        after.ready ≡ without t.ready name → Follows t (Bar name) after
    barred-follows after k b u r = record {
      same_known = k;
      same_barred = b;
      reach = tracked.reach;
      walk = tracked.walk;
      unknown = u ∙ sym (listed-same t.known (t.barred ++ name ∷ []) (without t.unknown name) tracked.reach old-barred);
      ready = subst (AreReady t.known (t.barred ++ name ∷ [])) (sym r) (picks-barred t.known t.barred name t.known.added t.ready tracked.ready);
    }

-- the same of what is equal
pub listed-over : (k k' : Known) (barred listed listed' : List ObjectName) → k' ≡ k → listed' ≡ listed → AreListed k barred listed → AreListed k' barred listed'
listed-over k k' barred listed listed' e f l =
    subst (λ k. AreListed k barred listed') (sym e) (subst (AreListed k barred) (sym f) l)

pub lists-over : {F : Type 0} (r : Result Tracked F) (k k' : Known) (barred listed listed' : List ObjectName) → k' ≡ k → listed' ≡ listed →
    IfOk r (Lists k' barred listed') → IfOk r (Lists k barred listed)
lists-over r k k' barred listed listed' e f l =
    subst (λ k. IfOk r (Lists k barred listed)) e (subst (λ l. IfOk r (Lists k' barred l)) f l)

pub begun-listed : (k : Known) (roots : List Ref) (barred listed : List ObjectName) → k ≡ begun roots → barred ≡ [] → listed ≡ [] → AreListed k barred listed
begun-listed k roots barred listed e f g =
    subst (λ b. AreListed k b listed) (sym f) (listed-over (begun roots) k [] [] listed e g (listed-begun roots))
