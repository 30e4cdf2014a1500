-- What is known of the graph of thunks: the REFs that are wanted, thunks, and outputs of thunks.
use Rattle.std.specs.Prelude.{ℕ, List, [], Bool, true, false, ◌==◌, ◌&&◌, Option, Some, None, is_some, slice_get}
use Rattle.std.specs.List.{list_any}
use Rattle.std.specs.Map.{lookup}
use Rattle.std.specs.Ordering.{eq_by_cmp}
use Rattle.object_name.specs.Name.{ObjectName, name_cmp}
use Rattle.thunk_codec.specs.declared.reference.Ref.{Ref}
use Rattle.thunk_codec.specs.declared.reference.Ref.TheVariants.{Value, Out}
use Rattle.thunk_codec.specs.Thunk.{Parts}
use Rattle.thunk_codec.specs.Resolved.{refs_of}
use Rattle.dep_tracker.specs.Walk.{has}

-- the roots, which are wanted; the thunks that were added, and the outputs of those that were absorbed, in order
pub record Known : Type 0 where
  pub roots : List Ref
  pub added : List (ObjectName × Parts)
  pub absorbed : List (ObjectName × List ObjectName)

-- nothing but what is wanted
abbrev pub begun : List Ref → Known
begun roots = record { roots = roots; added = []; absorbed = [] }

-- whether two names are the same
abbrev pub same_name : ObjectName → ObjectName → Bool
same_name a b = eq_by_cmp name_cmp a b

-- whether two REFs are the same
abbrev pub same_ref : Ref → Ref → Bool
same_ref (Value a) (Value b) = same_name a b
same_ref (Out a i) (Out b j) = same_name a b && (i == j)
same_ref (Value a) (Out b j) = false
same_ref (Out a i) (Value b) = false

-- whether a name is in a list
abbrev pub has_name : List ObjectName → ObjectName → Bool
has_name names name = has same_name names name

-- what stands beside a name
abbrev pub look_up : {A : Type 0} → List (ObjectName × A) → ObjectName → Option A
look_up entries name = lookup (same_name name) entries

-- whether something stands beside a name
abbrev pub has_entry : {A : Type 0} → List (ObjectName × A) → ObjectName → Bool
has_entry entries name = is_some (look_up entries name)

-- the REFs of a thunk: the function's, then those of the inputs by path
abbrev pub refs_in : Option Parts → List Ref
refs_in None = []
refs_in (Some thunk) = refs_of thunk

-- one of some outputs, from 0
abbrev pub output_in : Option (List ObjectName) → ℕ → Option ObjectName
output_in None index = None
output_in (Some outputs) index = slice_get outputs index

-- an output of a thunk, where it was absorbed
abbrev pub output_at : List (ObjectName × List ObjectName) → ObjectName → ℕ → Option ObjectName
output_at absorbed name index = output_in (look_up absorbed name) index
