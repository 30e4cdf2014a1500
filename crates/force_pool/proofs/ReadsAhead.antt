-- Names that are listed, and keepers that are read ahead of the evaluation.
use Rattle.std.proofs.Common.{◌≡◌, ◌<◌, ◌+◌, ℕ, zero, suc, Bool, true, false, ◌||◌, List, [], ◌∷◌, ◌++◌, length, map, take, get_or, Option, Some, None, refl, sym, ap, subst, ◌∙◌, arith}
use Rattle.std.specs.Prelude.{IfSome, Result, slice_get}
use Rattle.std.proofs.lemmas.List.{map_push, take_more}
use Rattle.std.proofs.lemmas.Option.{none-some, same_Some}
use Rattle.std.proofs.Math.Seq.{take-length}
use Rattle.object_name.specs.declared.trouble.Trouble.{Trouble}
use Rattle.object_name.specs.declared.kind.Kind.TheVariants as kinds
use Rattle.object_name.specs.Name.{ObjectName, name_of}
use Rattle.object_name.specs.Causes.{HasCauseOver}
use Rattle.thunk_codec.specs.declared.reference.Ref.{Ref}
use Rattle.thunk_codec.specs.Job.{with_length, with_size}
use Rattle.blob_store.specs.Store.{Store, Write}
use Rattle.dep_tracker.specs.Known.{has_name, same_name}
use Rattle.dep_tracker.proofs.PublicLaws.{name-self}
use Rattle.thunk_codec.specs.Resolved.{HaveValueKind}
use Rattle.force_pool.specs.Values.{AreValues}
use Rattle.force_pool.specs.Walks.{IsOnlyRead}

-- ---- names

or_left : (a b : Bool) → a ≡ true → (a || b) ≡ true
or_left true b h = refl
or_left false b h = grind (arith, h)

or_right : (a b : Bool) → b ≡ true → (a || b) ≡ true
or_right true b h = refl
or_right false b h = h

-- a name that stands in a list is in it
pub listed_at : (names : List ObjectName) (place : ℕ) (name : ObjectName) → slice_get names place ≡ Some name → has_name names name ≡ true
listed_at [] place name h = absurd (none-some name h)
listed_at (x ∷ names) zero name h = or_left _ _ (subst (λ y. same_name name y ≡ true) (sym (same_Some _ _ h)) (name-self name))
listed_at (x ∷ names) (suc place) name h = or_right (same_name name x) _ (listed_at names place name h)

-- the name at a place is in the list, if there is one
pub listed_if : (names : List ObjectName) (place : ℕ) (found : Option ObjectName) → found ≡ slice_get names place → IfSome found (λ name. has_name names name ≡ true)
listed_if names place None is = tt
listed_if names place (Some name) is = listed_at names place name (sym is)

-- ---- values

kinds_more : (names : List ObjectName) (name : ObjectName) → HaveValueKind names → name.kind ≡ kinds.Value → HaveValueKind (names ++ name ∷ [])
kinds_more [] name all one = (one, tt)
kinds_more (x ∷ names) name all one = (all.0, kinds_more names name all.1 one)

pub no_values : AreValues []
no_values = record { kinds = tt }

-- and one more
pub values_pushed : (old now : List ObjectName) (name : ObjectName) → now ≡ old ++ name ∷ [] → AreValues old → name.kind ≡ kinds.Value → AreValues now
values_pushed old now name is all one = subst AreValues (sym is) (record { kinds = kinds_more old name all.kinds one })

-- ---- objects

-- an object that was read is as long as its name says
pub sized_by_name : (found : Option (List ℕ)) (name : ObjectName) → IfSome found (λ bytes. name_of bytes ≡ name) → IfSome found (λ bytes. length bytes ≡ name.size)
sized_by_name None name h = tt
sized_by_name (Some bytes) name h = ap (λ (n : ObjectName). n.size) h

-- one more is as long as its name says
pub sized_more : (inputs : List (List ℕ × Ref)) (read : List (List ℕ × List ℕ)) (i : ℕ) (input : List ℕ × Ref) (one : List ℕ × List ℕ) → i < length inputs → input ≡ get_or inputs i input → with_length one ≡ with_size input
    → map with_length read ≡ map with_size (take i inputs) → map with_length (read ++ one ∷ []) ≡ map with_size (take (i + 1) inputs)
sized_more inputs read i input one within is same so_far =
    map_push with_length read one
    ∙ (λ j. so_far j ++ same j ∷ [])
    ∙ sym (map_push with_size (take i inputs) input)
    ∙ ap (map with_size) (ap (λ (next : List ℕ × Ref). take i inputs ++ next ∷ []) is ∙ sym (take_more inputs i input within))

-- all are as long as their names say
pub sized_all : (inputs : List (List ℕ × Ref)) (read : List (List ℕ × List ℕ)) (i : ℕ) → i ≡ length inputs → map with_length read ≡ map with_size (take i inputs) → map with_length read ≡ map with_size inputs
sized_all inputs read i all so_far = so_far ∙ ap (λ j. map with_size (take j inputs)) all ∙ ap (map with_size) (take-length inputs)

-- ---- keepers

-- calls that leave a keeper as it is only read it
pub read_over : {K T : Type 0} (Told : Type 0) (store : K → Store) (writes : K → List Write) (faults : K → ℕ) (calls retries : ℕ) (old now : K) (result : Result T Trouble)
    → (Told → store now ≡ store old) → (Told → writes now ≡ writes old) → HasCauseOver calls retries (faults old) (faults now) result → IsOnlyRead Told store writes faults old now
read_over Told store writes faults calls retries old now result same list cause = record { same = same; list = list; later = cause.later }
