-- The chain of yields that a REF begins, a link at a time.
use Rattle.std.specs.Prelude.{◌≡◌, ◌⊎◌, ℕ, List, true, Some}
use Rattle.object_name.specs.declared.kind.Kind.TheVariants as kinds
use Rattle.object_name.specs.Name.{ObjectName}
use Rattle.thunk_codec.specs.declared.reference.Ref.{Ref}
use Rattle.thunk_codec.specs.declared.reference.Ref.TheVariants.{Value, Out}
use Rattle.dep_tracker.specs.declared.valued.Link.{Link}
use Rattle.dep_tracker.specs.declared.valued.Link.TheVariants.{Ends, Breaks, Yields}
use Rattle.dep_tracker.specs.Walk.{has}
use Rattle.dep_tracker.specs.Known.{output_at, same_ref}
use Rattle.dep_tracker.specs.Reach.{IsValued}

module _ (absorbed : List (ObjectName × List ObjectName)) where
  -- an output is a thunk, whose first output is the next link
  pub record IsYield (ref next : Ref) : Type 0 where
    pub name : ObjectName
    pub index : ℕ
    pub inner : ObjectName
    pub is : ref ≡ Out name index
    pub output : output_at absorbed name index ≡ Some inner
    pub kind : inner.kind ≡ kinds.Thunk
    pub yields : next ≡ Out inner 0

  -- what a link is
  abbrev pub IsLink : Ref → Link → Type 0
  IsLink ref Ends = IsValued absorbed ref
  IsLink ref Breaks = ¬ (IsValued absorbed ref)
  IsLink ref (Yields next) = IsYield ref next

  -- the links seen: each yields another of them, or the one at hand, which has a value where the first has one
  pub record IsChain (ref : Ref) (seen : List Ref) (here : Ref) : Type 0 where
    pub links : (x : Ref) → has same_ref seen x ≡ true → (y : Ref) × IsYield x y × ((has same_ref seen y ≡ true) ⊎ (y ≡ here))
    pub onward : IsValued absorbed ref → IsValued absorbed here
    pub back : IsValued absorbed here → IsValued absorbed ref
