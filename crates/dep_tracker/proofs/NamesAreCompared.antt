-- The tests of names and REFs are true exactly where they are the same.
use Rattle.std.proofs.Common.{◌≡◌, ℕ, Bool, true, false, ◌&&◌, ◌==◌, List, [], ◌∷◌, zero, suc, Some, slice_get, refl, sym, ap, ap₂, ◌∙◌, subst, arith}
use Rattle.std.proofs.lemmas.Option.{none-some, same_Some}
use Rattle.std.specs.Ordering.{eq_by_cmp}
use Rattle.object_name.specs.Name.{ObjectName, name_cmp}
use Rattle.object_name.specs.contracts.name.NamePartialEq.TheImpl as name_equality
use Rattle.object_name.specs.contracts.name.NameOrd.TheImpl.Laws.{matches_eq-law}
use Rattle.object_name.proofs.PublicLaws.{name_cmp-same, eq_by_cmp-name}
use Rattle.thunk_codec.specs.declared.reference.Ref.{Ref}
use Rattle.thunk_codec.specs.declared.reference.Ref.TheVariants.{Value, Out}
use Rattle.dep_tracker.specs.Known.{same_name, same_ref, has_name}
use Rattle.dep_tracker.proofs.Booleans.{true_or, or_right}

-- two names are equal by `==` exactly where they tie in the order
pub equality_ties : (a b : ObjectName) → (name_equality.ghosts).eq a b ≡ eq_by_cmp name_cmp a b
equality_ties a b = matches_eq-law a b

-- the same of the tests of a name
pub equality_tests : (a : ObjectName) → (name_equality.ghosts).eq a ≡ same_name a
equality_tests a = λ i b. equality_ties a b i

-- and of the tests of all names
pub equality_is : (name_equality.ghosts).eq ≡ same_name
equality_is = λ i a b. equality_ties a b i

pub name-self : (a : ObjectName) → same_name a a ≡ true
name-self a = name_cmp-same a

pub name-equal : (a b : ObjectName) → same_name a b ≡ true → a ≡ b
name-equal a b h = (eq_by_cmp-name a b).0 h

-- a name that stands in a list is in it
pub name-listed : (names : List ObjectName) (place : ℕ) (name : ObjectName) → slice_get names place ≡ Some name → has_name names name ≡ true
name-listed [] place name h = absurd (none-some name h)
name-listed (x ∷ names) zero name h = true_or _ _ (subst (λ y. same_name name y ≡ true) (sym (same_Some _ _ h)) (name-self name))
name-listed (x ∷ names) (suc place) name h = or_right (same_name name x) _ (name-listed names place name h)

both : (a b : Bool) → (a && b) ≡ true → (a ≡ true) × (b ≡ true)
both true true h = (refl, refl)
both true false h = (refl, h)
both false true h = (h, refl)
both false false h = (h, h)

both-true : (a b : Bool) → a ≡ true → b ≡ true → (a && b) ≡ true
both-true true b h k = k
both-true false b h k = h

number-equal : (i j : ℕ) → (i == j) ≡ true → i ≡ j
number-equal i j h = grind (arith, h)

number-self : (i : ℕ) → (i == i) ≡ true
number-self i = grind arith

pub ref-self : (a : Ref) → same_ref a a ≡ true
ref-self (Value a) = name-self a
ref-self (Out a i) = both-true _ _ (name-self a) (number-self i)

pub ref-equal : (a b : Ref) → same_ref a b ≡ true → a ≡ b
ref-equal (Value a) (Value b) h = ap Value (name-equal a b h)
ref-equal (Out a i) (Out b j) h = let p = both (same_name a b) (i == j) h in ap₂ Out (name-equal a b p.0) (number-equal i j p.1)
ref-equal (Value a) (Out b j) h = absurd (grind (arith, h))
ref-equal (Out a i) (Value b) h = absurd (grind (arith, h))
