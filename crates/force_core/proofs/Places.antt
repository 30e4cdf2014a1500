-- The first place in a list at which a test passes, after one more, and with another in a place.
use Rattle.std.proofs.Common.{◌≡◌, ◌≢◌, ℕ, zero, suc, ◌+◌, List, [], ◌∷◌, ◌++◌, length, set, Bool, true, false, cond, Option, Some, None, refl, ap, sym, ◌∙◌, arith}
use Rattle.std.specs.Prelude.{slice_get, position}
use Rattle.std.specs.List.{position_from}
use Rattle.std.proofs.lemmas.Iterator.Adapters.{position_from-zero}
use Rattle.std.proofs.lemmas.Option.{none-some, same_Some}

cond-kept : (b : Bool) (n : ℕ) (o q : Option ℕ) (j : ℕ) → (o ≡ Some j → q ≡ Some j) → cond b (Some n) o ≡ Some j → cond b (Some n) q ≡ Some j
cond-kept true n o q j f is = is
cond-kept false n o q j f is = f is

cond-away : (b : Bool) (n : ℕ) (o : Option ℕ) (j : ℕ) → j ≢ n → cond b (Some n) o ≡ Some j → o ≡ Some j
cond-away true n o j away is = absurd (away (sym (same_Some n j is)))
cond-away false n o j away is = is

cond-none : (b : Bool) (n : ℕ) (o : Option ℕ) → cond b (Some n) o ≡ None → (b ≡ false) × (o ≡ None)
cond-none true n o is = absurd (none-some n (sym is))
cond-none false n o is = (refl, is)

from-push : {A : Type 0} (p : A → Bool) (n : ℕ) (xs : List A) (y : A) (j : ℕ) → position_from p n xs ≡ Some j → position_from p n (xs ++ y ∷ []) ≡ Some j
from-push p n [] y j is = absurd (none-some j is)
from-push p n (x ∷ xs) y j is = cond-kept (p x) n (position_from p (n + 1) xs) (position_from p (n + 1) (xs ++ y ∷ [])) j (from-push p (n + 1) xs y j) is

from-push-new : {A : Type 0} (p : A → Bool) (n : ℕ) (xs : List A) (y : A) → position_from p n xs ≡ None → p y ≡ true → position_from p n (xs ++ y ∷ []) ≡ Some (n + length xs)
from-push-new p n [] y none new =
    let e : n ≡ n + 0 = omega arith in
    rw new (ap (λ (k : ℕ). Some k) e)
from-push-new p n (x ∷ xs) y none new =
    let q = cond-none (p x) n (position_from p (n + 1) xs) none in
    let e : n + 1 + length xs ≡ n + length (x ∷ xs) = omega arith in
    rw q.0 (from-push-new p (n + 1) xs y q.1 new ∙ ap (λ (k : ℕ). Some k) e)

zero-plus : (n : ℕ) → 0 + n ≡ n
zero-plus n = omega arith

from-set-away : {A : Type 0} (p : A → Bool) (n : ℕ) (xs : List A) (i : ℕ) (y : A) (j : ℕ) → position_from p n xs ≡ Some j → p y ≡ false → j ≢ n + i → position_from p n (set xs i y) ≡ Some j
from-set-away p n [] i y j is fails away = absurd (none-some j is)
from-set-away p n (x ∷ xs) zero y j is fails away = rw fails (cond-away (p x) n (position_from p (n + 1) xs) j (λ e. away (omega (arith, e))) is)
from-set-away p n (x ∷ xs) (suc i) y j is fails away =
    cond-kept (p x) n (position_from p (n + 1) xs) (position_from p (n + 1) (set xs i y)) j (λ there. from-set-away p (n + 1) xs i y j there fails (λ e. away (omega (arith, e)))) is

from-set-like : {A : Type 0} (p : A → Bool) (n : ℕ) (xs : List A) (i : ℕ) (x y : A) → slice_get xs i ≡ Some x → p y ≡ p x → position_from p n (set xs i y) ≡ position_from p n xs
from-set-like p n [] i x y found like = refl
from-set-like p n (z ∷ xs) zero x y found like =
    let e : p y ≡ p z = like ∙ ap p (sym (same_Some z x found)) in
    ap (λ (b : Bool). cond b (Some n) (position_from p (n + 1) xs)) e
from-set-like p n (z ∷ xs) (suc i) x y found like = ap (λ (o : Option ℕ). cond (p z) (Some n) o) (from-set-like p (n + 1) xs i x y found like)

-- what passes first stays so after one more
pub position-push : {A : Type 0} (p : A → Bool) (xs : List A) (y : A) (j : ℕ) → position p xs ≡ Some j → position p (xs ++ y ∷ []) ≡ Some j
position-push p xs y j is = position_from-zero p (xs ++ y ∷ []) ∙ from-push p 0 xs y j (sym (position_from-zero p xs) ∙ is)

-- one more that passes where none did
pub position-push-new : {A : Type 0} (p : A → Bool) (xs : List A) (y : A) → position p xs ≡ None → p y ≡ true → position p (xs ++ y ∷ []) ≡ Some (length xs)
position-push-new p xs y none new = position_from-zero p (xs ++ y ∷ []) ∙ from-push-new p 0 xs y (sym (position_from-zero p xs) ∙ none) new ∙ ap (λ (n : ℕ). Some n) (zero-plus (length xs))

-- another that doesn't pass, in another place than the first that does
pub position-set-away : {A : Type 0} (p : A → Bool) (xs : List A) (i : ℕ) (y : A) (j : ℕ) → position p xs ≡ Some j → p y ≡ false → j ≢ i → position p (set xs i y) ≡ Some j
position-set-away p xs i y j is fails away = position_from-zero p (set xs i y) ∙ from-set-away p 0 xs i y j (sym (position_from-zero p xs) ∙ is) fails (λ e. away (omega (arith, e)))

-- another of which the test says the same
pub position-set-like : {A : Type 0} (p : A → Bool) (xs : List A) (i : ℕ) (x y : A) → slice_get xs i ≡ Some x → p y ≡ p x → position p (set xs i y) ≡ position p xs
position-set-like p xs i x y found like = position_from-zero p (set xs i y) ∙ from-set-like p 0 xs i x y found like ∙ sym (position_from-zero p xs)

-- what stands in a list after one more stood there, or is that
pub get-push : {A C : Type 0} (xs : List A) (y : A) (k : ℕ) (z : A) → slice_get (xs ++ y ∷ []) k ≡ Some z → (slice_get xs k ≡ Some z → C) → (k ≡ length xs → y ≡ z → C) → C
get-push [] y zero z is there here = here refl (same_Some y z is)
get-push [] y (suc k) z is there here = absurd (none-some z is)
get-push (x ∷ xs) y zero z is there here = there is
get-push (x ∷ xs) y (suc k) z is there here = get-push xs y k z is there (λ e. here (omega (arith, e)))

-- what stands in a list with another in a place stood there, in another place, or is that
pub get-set : {A C : Type 0} (xs : List A) (i : ℕ) (y : A) (k : ℕ) (z : A) → slice_get (set xs i y) k ≡ Some z → (k ≢ i → slice_get xs k ≡ Some z → C) → (k ≡ i → y ≡ z → C) → C
get-set [] i y k z is there here = absurd (none-some z is)
get-set (x ∷ xs) zero y zero z is there here = here refl (same_Some y z is)
get-set (x ∷ xs) zero y (suc k) z is there here = there (λ e. absurd (omega (arith, e))) is
get-set (x ∷ xs) (suc i) y zero z is there here = there (λ e. absurd (omega (arith, e))) is
get-set (x ∷ xs) (suc i) y (suc k) z is there here = get-set xs i y k z is (λ ne. there (λ e. ne (omega (arith, e)))) (λ e. here (omega (arith, e)))
