-- The name at a place of a list is in it.
use Rattle.std.proofs.Common.{◌≡◌, ℕ, zero, suc, Bool, true, false, ◌||◌, List, [], ◌∷◌, Option, Some, None, refl, sym, subst, arith}
use Rattle.std.specs.Prelude.{IfSome, slice_get}
use Rattle.std.proofs.lemmas.Option.{none-some, same_Some}
use Rattle.object_name.specs.Name.{ObjectName}
use Rattle.dep_tracker.specs.Known.{has_name, same_name}
use Rattle.dep_tracker.proofs.PublicLaws.{name-self}

or_left : (a b : Bool) → a ≡ true → (a || b) ≡ true
or_left true b h = refl
or_left false b h = grind (arith, h)

or_right : (a b : Bool) → b ≡ true → (a || b) ≡ true
or_right true b h = refl
or_right false b h = h

listed_at : (names : List ObjectName) (place : ℕ) (name : ObjectName) → slice_get names place ≡ Some name → has_name names name ≡ true
listed_at [] place name h = absurd (none-some name h)
listed_at (x ∷ names) zero name h = or_left _ _ (subst (λ y. same_name name y ≡ true) (sym (same_Some _ _ h)) (name-self name))
listed_at (x ∷ names) (suc place) name h = or_right (same_name name x) _ (listed_at names place name h)

-- if there is one
pub listed_if : (names : List ObjectName) (place : ℕ) (found : Option ObjectName) → found ≡ slice_get names place → IfSome found (λ name. has_name names name ≡ true)
listed_if names place None is = tt
listed_if names place (Some name) is = listed_at names place name (sym is)
