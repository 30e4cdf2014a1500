-- Which REFs are in reach, and which of them have a value.
use Rattle.std.specs.Prelude.{◌≡◌, ℕ, List, [], ◌∷◌, ◌++◌, Option, Some, None}
use Rattle.object_name.specs.declared.kind.Kind.{Kind}
use Rattle.object_name.specs.declared.kind.Kind.TheVariants as kinds
use Rattle.object_name.specs.Name.{ObjectName}
use Rattle.thunk_codec.specs.declared.reference.Ref.{Ref}
use Rattle.thunk_codec.specs.declared.reference.Ref.TheVariants.{Value, Out}
use Rattle.thunk_codec.specs.Thunk.{Parts}
use Rattle.dep_tracker.specs.Walk.{Walks, Reachable}
use Rattle.dep_tracker.specs.Known.{Known, same_ref, look_up, refs_in, output_at}

-- the REF that an output yields where it is the name of a thunk: that thunk's first output
abbrev pub yield_by : ObjectName → Kind → List Ref
yield_by output kinds.Value = []
yield_by output kinds.Thunk = Out output 0 ∷ []

-- the REF that an output yields, if it is known
abbrev pub yield_of : Option ObjectName → List Ref
yield_of None = []
yield_of (Some output) = yield_by output output.kind

module _ (absorbed : List (ObjectName × List ObjectName)) where
  -- a REF has a value: a value's name is its own; an output that is the name of a value has that; an output that is the name
  -- of a thunk has what this thunk's first output has
  pub data HasValue : Ref → ObjectName → Type 0 where
    given : (name : ObjectName) → HasValue (Value name) name
    output : (name : ObjectName) (index : ℕ) (value : ObjectName) → output_at absorbed name index ≡ Some value → value.kind ≡ kinds.Value →
        HasValue (Out name index) value
    yielded : (name : ObjectName) (index : ℕ) (inner value : ObjectName) → output_at absorbed name index ≡ Some inner → inner.kind ≡ kinds.Thunk →
        HasValue (Out inner 0) value → HasValue (Out name index) value

  -- some value is that of the REF
  abbrev pub IsValued : Ref → Type 0
  IsValued ref = (value : ObjectName) × HasValue ref value

  -- what a REF leads to: an output, to the REFs of its thunk, and then to what it yields
  abbrev pub leads_to : List (ObjectName × Parts) → Ref → List Ref
  leads_to added (Value name) = []
  leads_to added (Out name index) = refs_in (look_up added name) ++ yield_of (output_at absorbed name index)

-- a REF is in reach: the least set that has the roots and, with each REF, those that it leads to
abbrev pub IsInReach : Known → Ref → Type 0
IsInReach k ref = Reachable same_ref (leads_to k.absorbed k.added) k.roots ref

-- a thunk is in reach: one of its outputs is
abbrev pub IsThunkInReach : Known → ObjectName → Type 0
IsThunkInReach k name = (index : ℕ) × IsInReach k (Out name index)

-- these are the REFs in reach, in the order of a depth-first walk from the roots
abbrev pub IsReach : Known → List Ref → Type 0
IsReach k reach = Walks same_ref (leads_to k.absorbed k.added) [] k.roots reach
