-- The numbers that are left where one is taken out.
use Rattle.std.proofs.Common.{◌≡◌, ◌≢◌, ℕ, zero, suc, List, [], ◌∷◌, ◌++◌, get_or, Bool, true, false, ◌||◌, Some, refl, ap, ◌∙◌, arith, eqb}
use Rattle.std.specs.Prelude.{slice_get, position}
use Rattle.std.specs.List.{remove}
use Rattle.std.proofs.lemmas.Bool.{false≢true}
use Rattle.std.proofs.lemmas.Bool.Decides.{nat_tests}
use Rattle.std.proofs.lemmas.List.Quantifiers.{position-Some}
use Rattle.std.proofs.lemmas.Option.{none-some, same_Some, slice_get-get_or}
use Rattle.force_core.specs.Index.{is_among}

pub or-right : (b c d : Bool) → (c ≡ true → d ≡ true) → (b || c) ≡ true → (b || d) ≡ true
or-right true c d f is = refl
or-right false c d f is = f is

or-left : (b c : Bool) → b ≡ false → (b || c) ≡ true → c ≡ true
or-left b c not_b is = rw not_b at is

-- either of two tests passes where the second does
pub or-second : (b c : Bool) → c ≡ true → (b || c) ≡ true
or-second true c is = refl
or-second false c is = is

-- a number more
pub among-push : (xs : List ℕ) (x id : ℕ) → is_among id xs ≡ true → is_among id (xs ++ x ∷ []) ≡ true
among-push [] x id among = absurd (false≢true among)
among-push (y ∷ ys) x id among = or-right (eqb y id) (is_among id ys) (is_among id (ys ++ x ∷ [])) (among-push ys x id) among

pub among-pushed : (xs : List ℕ) (x : ℕ) → is_among x (xs ++ x ∷ []) ≡ true
among-pushed [] x =
    let same : eqb x x ≡ true = grind (arith, nat_tests) in
    rw same refl
among-pushed (y ∷ ys) x = or-second (eqb y x) (is_among x (ys ++ x ∷ [])) (among-pushed ys x)

not-same : (x id number : ℕ) → x ≡ id → number ≢ id → eqb x number ≡ false
not-same x id number same other = grind (arith, nat_tests)

remove-keeps : (xs : List ℕ) (i id number : ℕ) → slice_get xs i ≡ Some id → number ≢ id → is_among number xs ≡ true → is_among number (remove xs i) ≡ true
remove-keeps [] i id number found other among = absurd (none-some id found)
remove-keeps (x ∷ xs) zero id number found other among = or-left (eqb x number) (is_among number xs) (not-same x id number (same_Some x id found) other) among
remove-keeps (x ∷ xs) (suc i) id number found other among =
    or-right (eqb x number) (is_among number xs) (is_among number (remove xs i)) (remove-keeps xs i id number found other) among

eq-is : (x id : ℕ) → eqb x id ≡ true → x ≡ id
eq-is x id is = grind (arith, nat_tests)

-- each other number is still there
pub removed : (xs : List ℕ) (i id : ℕ) → position (λ (x : ℕ). eqb x id) xs ≡ Some i → (number : ℕ) → number ≢ id → is_among number xs ≡ true → is_among number (remove xs i) ≡ true
removed xs i id is number other among =
    let q = position-Some (λ (x : ℕ). eqb x id) xs i 0 is in
    let at : slice_get xs i ≡ Some id = slice_get-get_or xs i 0 q.0 ∙ ap (λ (n : ℕ). Some n) (eq-is (get_or xs i 0) id q.1) in
    remove-keeps xs i id number at other among
