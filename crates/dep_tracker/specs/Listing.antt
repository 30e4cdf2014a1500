-- What the steps keep by which unknown and ready thunks are listed.
use Rattle.std.specs.Prelude.{◌≡◌, List, [], ◌∷◌, ◌++◌, Bool, true, false}
use Rattle.std.specs.List.{IsDistinct}
use Rattle.object_name.specs.Name.{ObjectName}
use Rattle.thunk_codec.specs.Thunk.{Parts}
use Rattle.dep_tracker.specs.Known.{Known, same_name, has_name}
use Rattle.dep_tracker.specs.Tracked.{IsUnknown, Picks, AreAddedInReach}

-- a test tells whether a fact holds
abbrev pub Tells : Type 0 → Bool → Type 0
Tells P true = P
Tells P false = ¬ P

-- the names of the entries that hold, with one entry more
abbrev pub PicksMore : (ObjectName × Parts → Type 0) → ObjectName × Parts → List ObjectName → List ObjectName → Type 0
PicksMore P entry names more = (entries : List (ObjectName × Parts)) → Picks P entries names → Picks P (entries ++ entry ∷ []) more

-- some of the unknown thunks are listed, each once, and all that were added are in reach
pub record AreListed (k : Known) (barred listed : List ObjectName) : Type 0 where
  pub found : (name : ObjectName) → has_name listed name ≡ true → IsUnknown k barred name
  pub once : IsDistinct same_name listed
  pub added : AreAddedInReach k
