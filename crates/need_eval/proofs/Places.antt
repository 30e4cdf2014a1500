-- Elements of lists by their places, and what holds of all elements.
use Rattle.std.proofs.Common.{◌≡◌, inl, inr, ℕ, zero, suc, List, [], ◌∷◌, ◌++◌, Some, length, refl, subst}
use Rattle.std.specs.Prelude.{◌⊎◌, slice_get}
use Rattle.std.specs.List.{AllByRecursion}
use Rattle.std.proofs.lemmas.Option.{same_Some, none-some}

pub get-prefix : {A : Type 0} (xs ys : List A) (i : ℕ) (x : A) → slice_get xs i ≡ Some x → slice_get (xs ++ ys) i ≡ Some x
get-prefix [] ys i x is = absurd (none-some x is)
get-prefix (y ∷ xs) ys zero x is = is
get-prefix (y ∷ xs) ys (suc i) x is = get-prefix xs ys i x is

pub get-last : {A : Type 0} (xs : List A) (x : A) → slice_get (xs ++ x ∷ []) (length xs) ≡ Some x
get-last [] x = refl
get-last (y ∷ xs) x = get-last xs x

-- an element of a list with one more at its end is one of the list, or that one
pub get-more : {A : Type 0} (xs : List A) (x : A) (i : ℕ) (y : A) → slice_get (xs ++ x ∷ []) i ≡ Some y → (slice_get xs i ≡ Some y) ⊎ (x ≡ y)
get-more [] x zero y is = inr (same_Some x y is)
get-more [] x (suc i) y is = absurd (none-some y is)
get-more (z ∷ xs) x zero y is = inl is
get-more (z ∷ xs) x (suc i) y is = get-more xs x i y is

-- where it holds of all, it holds of the one at a place
pub all-get : {A : Type 0} (P : A → Type 0) (xs : List A) → AllByRecursion P xs → (i : ℕ) (x : A) → slice_get xs i ≡ Some x → P x
all-get P [] all i x is = absurd (none-some x is)
all-get P (y ∷ xs) all zero x is = subst P (same_Some y x is) all.0
all-get P (y ∷ xs) all (suc i) x is = all-get P xs all.1 i x is

-- where it holds at each place, it holds of all
pub all-placed : {A : Type 0} (P : A → Type 0) (xs : List A) → ((i : ℕ) (x : A) → slice_get xs i ≡ Some x → P x) → AllByRecursion P xs
all-placed P [] at = tt
all-placed P (x ∷ xs) at = (at zero x refl, all-placed P xs (λ i y is. at (suc i) y is))

pub all-more : {A : Type 0} (P Q : A → Type 0) → ((x : A) → P x → Q x) → (xs : List A) → AllByRecursion P xs → AllByRecursion Q xs
all-more P Q more [] all = tt
all-more P Q more (x ∷ xs) all = (more x all.0, all-more P Q more xs all.1)

pub all-append : {A : Type 0} (P : A → Type 0) (xs : List A) (x : A) → AllByRecursion P xs → P x → AllByRecursion P (xs ++ x ∷ [])
all-append P [] x all own = (own, tt)
all-append P (y ∷ xs) x all own = (all.0, all-append P xs x all.1 own)

pub all-prefix : {A : Type 0} (P : A → Type 0) (xs ys : List A) → AllByRecursion P (xs ++ ys) → AllByRecursion P xs
all-prefix P [] ys all = tt
all-prefix P (x ∷ xs) ys all = (all.0, all-prefix P xs ys all.1)
