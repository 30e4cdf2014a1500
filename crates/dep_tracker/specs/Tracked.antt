-- Which thunks are unknown and which are ready, after the calls that a tracker takes.
use Rattle.std.specs.Prelude.{◌≡◌, ℕ, List, [], ◌∷◌, ◌++◌, Bool, true, false, ◌||◌, not, filter, if◌then◌else◌}
use Rattle.std.specs.List.{AllByRecursion, IsDistinct}
use Rattle.object_name.specs.Name.{ObjectName}
use Rattle.thunk_codec.specs.declared.reference.Ref.{Ref}
use Rattle.thunk_codec.specs.declared.reference.Ref.TheVariants.{Value, Out}
use Rattle.thunk_codec.specs.Thunk.{Parts}
use Rattle.thunk_codec.specs.Resolved.{refs_of}
use Rattle.dep_tracker.specs.Known.{Known, begun, same_name, has_name, has_entry}
use Rattle.dep_tracker.specs.Reach.{IsValued, IsThunkInReach, IsReach}

-- what is known, which thunks were barred, and which are unknown, in the order of meeting, and ready, in the order of adding
pub record Tracked : Type 0 where
  pub known : Known
  pub barred : List ObjectName
  pub unknown : List ObjectName
  pub ready : List ObjectName

-- nothing is tracked
abbrev pub nothing : Tracked
nothing = record { known = begun []; barred = []; unknown = []; ready = [] }

-- what a tracker is told: a thunk; the outputs of a thunk that was run; that a thunk can't be run ahead
pub data Call : Type 0 where
  Add : ObjectName → Parts → Call
  Absorb : ObjectName → List ObjectName → Call
  Bar : ObjectName → Call

-- a thunk is unknown: it is in reach, and neither added nor barred
pub record IsUnknown (k : Known) (barred : List ObjectName) (name : ObjectName) : Type 0 where
  pub in_reach : IsThunkInReach k name
  pub not_added : has_entry k.added name ≡ false
  pub not_barred : has_name barred name ≡ false

-- these are the unknown thunks, each once
pub record AreUnknown (k : Known) (barred names : List ObjectName) : Type 0 where
  pub found : (name : ObjectName) → has_name names name ≡ true → IsUnknown k barred name
  pub only : (name : ObjectName) → IsUnknown k barred name → has_name names name ≡ true
  pub once : IsDistinct same_name names

-- a thunk that was added is ready: it is in reach, all its REFs have values, and it is neither absorbed nor barred
pub record IsReady (k : Known) (barred : List ObjectName) (entry : ObjectName × Parts) : Type 0 where
  pub in_reach : IsThunkInReach k entry.0
  pub values : AllByRecursion (IsValued k.absorbed) (refs_of entry.1)
  pub not_absorbed : has_entry k.absorbed entry.0 ≡ false
  pub not_barred : has_name barred entry.0 ≡ false

-- these are the names of the entries that hold, in order
pub data Picks (P : ObjectName × Parts → Type 0) : List (ObjectName × Parts) → List ObjectName → Type 0 where
  none : Picks P [] []
  taken : (entry : ObjectName × Parts) (entries : List (ObjectName × Parts)) (names : List ObjectName) → P entry → Picks P entries names →
      Picks P (entry ∷ entries) (entry.0 ∷ names)
  left : (entry : ObjectName × Parts) (entries : List (ObjectName × Parts)) (names : List ObjectName) → ¬ (P entry) → Picks P entries names →
      Picks P (entry ∷ entries) names

-- these are the ready thunks, in the order of adding
abbrev pub AreReady : Known → List ObjectName → List ObjectName → Type 0
AreReady k barred names = Picks (IsReady k barred) k.added names

-- all thunks that were added are in reach
abbrev pub AreAddedInReach : Known → Type 0
AreAddedInReach k = (name : ObjectName) → has_entry k.added name ≡ true → IsThunkInReach k name

-- what is unknown and what is ready are so by what is in reach
pub record IsTracked (t : Tracked) : Type 0 where
  pub reach : List Ref
  pub walk : IsReach t.known reach
  pub unknown : AreUnknown t.known t.barred t.unknown
  pub ready : AreReady t.known t.barred t.ready
  pub added : AreAddedInReach t.known

-- the thunk that a call is about
abbrev pub thunk_of : Call → ObjectName
thunk_of (Add name thunk) = name
thunk_of (Absorb name outputs) = name
thunk_of (Bar name) = name

-- what is known after a call
abbrev pub learn : Known → Call → Known
learn k (Add name thunk) = record k { added = k.added ++ (name, thunk) ∷ [] }
learn k (Absorb name outputs) = record k { absorbed = k.absorbed ++ (name, outputs) ∷ [] }
learn k (Bar name) = k

-- what is barred after a call
abbrev pub barred_by : List ObjectName → Call → List ObjectName
barred_by barred (Add name thunk) = barred
barred_by barred (Absorb name outputs) = barred
barred_by barred (Bar name) = barred ++ name ∷ []

-- the names but for one
abbrev pub without : List ObjectName → ObjectName → List ObjectName
without names name = filter (λ other. not (same_name name other)) names

-- the unknown thunks that a call leaves unknown
abbrev pub unknown_still : List ObjectName → Call → List ObjectName
unknown_still unknown (Add name thunk) = without unknown name
unknown_still unknown (Absorb name outputs) = unknown
unknown_still unknown (Bar name) = without unknown name

-- those listed, and one more, unless it is added, barred or listed
abbrev pub with_new : Known → List ObjectName → List ObjectName → ObjectName → List ObjectName
with_new k barred listed name = if has_entry k.added name || has_name barred name || has_name listed name then listed else listed ++ name ∷ []

-- those listed, and then the thunks of some REFs that are new, in order
abbrev pub with_all_new : Known → List ObjectName → List ObjectName → List Ref → List ObjectName
with_all_new k barred listed [] = listed
with_all_new k barred listed (Value name ∷ refs) = with_all_new k barred listed refs
with_all_new k barred listed (Out name index ∷ refs) = with_all_new k barred (with_new k barred listed name) refs

-- by what is known and barred: the thunks that are new in reach come last among the unknown, in the order of the walk, and
-- those that are ready now are ready
pub record Lists (k : Known) (barred listed : List ObjectName) (t : Tracked) : Type 0 where
  pub same_known : t.known ≡ k
  pub same_barred : t.barred ≡ barred
  pub reach : List Ref
  pub walk : IsReach k reach
  pub unknown : t.unknown ≡ with_all_new k barred listed reach
  pub ready : AreReady k barred t.ready

-- what a tracker of some roots begins with
abbrev pub Begins : List Ref → Tracked → Type 0
Begins roots t = Lists (begun roots) [] [] t

-- what follows after a call
abbrev pub Follows : Tracked → Call → Tracked → Type 0
Follows t call after = Lists (learn t.known call) (barred_by t.barred call) (unknown_still t.unknown call) after

-- a call may be made: what is added is unknown, what is absorbed is ready, and what is barred is one of them
abbrev pub MayCall : Tracked → Call → Type 0
MayCall t (Add name thunk) = has_name t.unknown name ≡ true
MayCall t (Absorb name outputs) = has_name t.ready name ≡ true
MayCall t (Bar name) = (has_name t.unknown name || has_name t.ready name) ≡ true

-- some calls, each of which may be made, lead from one state to another
pub data Leads : Tracked → List Call → Tracked → Type 0 where
  done : (t : Tracked) → Leads t [] t
  called : (t : Tracked) (call : Call) (after : Tracked) (calls : List Call) (end : Tracked) → MayCall t call → Follows t call after → Leads after calls end →
      Leads t (call ∷ calls) end

-- a tracker of some roots has this after some calls
pub record IsAfter (roots : List Ref) (calls : List Call) (end : Tracked) : Type 0 where
  pub first : Tracked
  pub begins : Begins roots first
  pub leads : Leads first calls end
