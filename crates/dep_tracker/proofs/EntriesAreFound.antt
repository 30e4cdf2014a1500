-- Entries of maps by name, and names in sets.
use Rattle.std.proofs.Common.{◌≡◌, ℕ, zero, suc, ◌+◌, take, List, [], ◌∷◌, ◌++◌, Bool, true, false, cond, Option, Some, None, is_some, slice_get, Result, Ok, Err, IsOk, IfOk, ◌||◌, if◌then◌else◌, refl, sym, ap, ap₂, ◌∙◌, subst, arith}
use Rattle.std.proofs.lemmas.Option.{none-some, same_Some}
use Rattle.std.specs.Map.{lookup}
use Rattle.std.specs.List.{list_any}
use Rattle.indexmap.specs.IndexMap.{IndexMap, insert_entry}
use Rattle.indexmap.specs.IndexSet.{insert_key}
use Rattle.indexmap.proofs.CallerLemmas.{insert_entry-new}
use Rattle.object_name.specs.Name.{ObjectName}
use Rattle.object_name.specs.contracts.name.NamePartialEq.TheImpl as name_equality
use Rattle.dep_tracker.specs.Known.{same_name, has_name, has_entry, look_up}
use Rattle.dep_tracker.proofs.Booleans.{no}
use Rattle.dep_tracker.proofs.NamesAreCompared.{equality_tests, name-self}

-- what isn't there is nothing
pub is_none : {A : Type 0} (o : Option A) → is_some o ≡ false → o ≡ None
is_none None h = refl
is_none (Some v) h = absurd (grind (arith, h))

-- an entry of a new name comes last
pub entry-last : {V S : Type 0} (m : IndexMap ObjectName V S) (name : ObjectName) (v : V) → has_entry m.entries name ≡ false →
    insert_entry (name_equality.ghosts).eq m.entries name v ≡ m.entries ++ (name, v) ∷ []
entry-last m name v new = insert_entry-new (name_equality.ghosts).eq m name v
    (ap (λ t. lookup t m.entries) (equality_tests name) ∙ is_none (look_up m.entries name) new)

-- a name that is new comes last
pub name-last : {F : Type 0} (r : Result Bool F) (names new : List ObjectName) (name : ObjectName) → IsOk r →
    IfOk r (λ _. new ≡ insert_key (name_equality.ghosts).eq names name) → has_name names name ≡ false → new ≡ names ++ name ∷ []
name-last (Ok b) names new name ok keys none =
    keys ∙ no _ names (names ++ name ∷ []) (ap (λ t. list_any t names) (equality_tests name) ∙ none)
name-last (Err e) names new name ok keys none = absurd (grind (arith, ok))

found_at : {A : Type 0} (test : Bool) (v : A) (rest : Option A) → is_some rest ≡ true → is_some (cond test (Some v) rest) ≡ true
found_at true v rest h = refl
found_at false v rest h = h

found_first : {A : Type 0} (test : Bool) (v : A) (rest : Option A) → test ≡ true → is_some (cond test (Some v) rest) ≡ true
found_first true v rest h = refl
found_first false v rest h = absurd (grind (arith, h))

-- each entry is found by its name
pub entry-found : {A : Type 0} (entries : List (ObjectName × A)) (place : ℕ) (entry : ObjectName × A) → slice_get entries place ≡ Some entry →
    has_entry entries entry.0 ≡ true
entry-found [] place entry h = absurd (grind (arith, h))
entry-found {A} (e ∷ entries) zero entry h =
    found_first (same_name entry.0 e.0) e.1 _ (subst (λ (x : ObjectName × A). same_name entry.0 x.0 ≡ true) (sym (same_Some _ _ h)) (name-self entry.0))
entry-found (e ∷ entries) (suc place) entry h = found_at (same_name entry.0 e.0) e.1 _ (entry-found entries place entry h)

add_one : (n : ℕ) → n + 1 ≡ suc n
add_one n = omega arith

take-suc : {A : Type 0} (xs : List A) (n : ℕ) (x : A) → slice_get xs n ≡ Some x → take (suc n) xs ≡ take n xs ++ x ∷ []
take-suc [] n x h = absurd (none-some x h)
take-suc (y ∷ xs) zero x h = ap (λ z. z ∷ []) (same_Some _ _ h)
take-suc (y ∷ xs) (suc n) x h = ap (λ l. y ∷ l) (take-suc xs n x h)

-- with one element more
pub take-next : {A : Type 0} (xs : List A) (n : ℕ) (x : A) → slice_get xs n ≡ Some x → take (n + 1) xs ≡ take n xs ++ x ∷ []
take-next xs n x h = ap (λ k. take k xs) (add_one n) ∙ take-suc xs n x h

one_of : (b : Bool) (x y : List ObjectName) → (if b then x else y) ≡ (if false || false || b then x else y)
one_of true x y = refl
one_of false x y = refl

-- what is put into a set, where two other tests are false
pub name-new : (a b : Bool) (names new : List ObjectName) (name : ObjectName) → a ≡ false → b ≡ false → new ≡ insert_key (name_equality.ghosts).eq names name →
    new ≡ (if a || b || has_name names name then names else names ++ name ∷ [])
name-new a b names new name e f keys =
    keys ∙ ap (λ t. if list_any t names then names else names ++ name ∷ []) (equality_tests name) ∙ one_of (has_name names name) names (names ++ name ∷ [])
    ∙ ap₂ (λ x y. if x || y || has_name names name then names else names ++ name ∷ []) (sym e) (sym f)
