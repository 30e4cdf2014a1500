-- Numbers of four digits are in byte order as the numbers are.
use Rattle.std.proofs.Common.{◌≡◌, ℕ, suc, ◌+◌, ◌*◌, ◌/◌, ◌%◌, ◌≤◌, ◌<◌, inl, inr, Bool, true, List, [], ◌∷◌, refl, subst, arith}
use Rattle.std.specs.Ordering.{nat_cmp, is_lt}
use Rattle.std.specs.Cmp.Lexicographic.{slice_cmp}
use Rattle.std.proofs.Math.Nat.{eq-or-lt_of_le}
use Rattle.std.proofs.lemmas.Bool.{le-leb, lt-leb, eq-eqb}
use Rattle.build_plan.specs.Numbered.{four_digits}

-- whether a text is before another
abbrev before : List ℕ → List ℕ → Bool
before xs ys = is_lt (slice_cmp nat_cmp xs ys)

-- what begins with a smaller byte is before
smaller_first : (x y : ℕ) (xs ys : List ℕ) → x < y → before (x ∷ xs) (y ∷ ys) ≡ true
smaller_first x y xs ys h = rw (le-leb (suc x) y h) refl

-- where the first bytes are the same, the others tell
same_first : (x : ℕ) (xs ys : List ℕ) → before xs ys ≡ true → before (x ∷ xs) (x ∷ ys) ≡ true
same_first x xs ys h = rw (lt-leb (suc x) x (omega arith), eq-eqb x x refl) h

first_tells : (x y : ℕ) (xs ys : List ℕ) → x ≤ y → (x ≡ y → before xs ys ≡ true) → before (x ∷ xs) (y ∷ ys) ≡ true
first_tells x y xs ys h same = elim (eq-or-lt_of_le h) [ inl e ↦ subst (λ (v : ℕ). before (x ∷ xs) (v ∷ ys) ≡ true) e (same_first x xs ys (same e)) | inr less ↦ smaller_first x y xs ys less ]

-- digits of a smaller number are before
digits_tell : (a b c d k l m n : ℕ) → b < 10 → c < 10 → d < 10 → l < 10 → m < 10 → n < 10 → 1000 * a + 100 * b + 10 * c + d < 1000 * k + 100 * l + 10 * m + n
    → before ((48 + a) ∷ (48 + b) ∷ (48 + c) ∷ (48 + d) ∷ []) ((48 + k) ∷ (48 + l) ∷ (48 + m) ∷ (48 + n) ∷ []) ≡ true
digits_tell a b c d k l m n h1 h2 h3 h4 h5 h6 less =
    first_tells (48 + a) (48 + k) ((48 + b) ∷ (48 + c) ∷ (48 + d) ∷ []) ((48 + l) ∷ (48 + m) ∷ (48 + n) ∷ []) (omega (arith, h1, h2, h3, h4, h5, h6, less))
    (λ first. first_tells (48 + b) (48 + l) ((48 + c) ∷ (48 + d) ∷ []) ((48 + m) ∷ (48 + n) ∷ []) (omega (arith, h2, h3, h5, h6, less, first))
    (λ second. first_tells (48 + c) (48 + m) ((48 + d) ∷ []) ((48 + n) ∷ []) (omega (arith, h3, h6, less, first, second))
    (λ third. smaller_first (48 + d) (48 + n) [] [] (omega (arith, less, first, second, third)))))

-- a number of at most four digits is what they say
by_digits : (n : ℕ) → n < 10000 → n ≡ 1000 * (n / 1000 % 10) + 100 * (n / 100 % 10) + 10 * (n / 10 % 10) + n % 10
by_digits n small =
    let thousands : n / 1000 % 10 ≡ n / 1000 = omega (arith, small) in
    let hundreds : n / 100 ≡ 10 * (n / 1000) + n / 100 % 10 = omega arith in
    let tens : n / 10 ≡ 10 * (n / 100) + n / 10 % 10 = omega arith in
    let ones : n ≡ 10 * (n / 10) + n % 10 = omega arith in
    omega (arith, thousands, hundreds, tens, ones)

below_ten : (n : ℕ) → n % 10 < 10
below_ten n = omega arith

-- a smaller number is before
pub numbers_rise : (m n : ℕ) → m < n → n < 10000 → is_lt (slice_cmp nat_cmp (four_digits m) (four_digits n)) ≡ true
numbers_rise m n less small =
    let own = by_digits m (omega (arith, less, small)) in
    let other = by_digits n small in
    digits_tell (m / 1000 % 10) (m / 100 % 10) (m / 10 % 10) (m % 10) (n / 1000 % 10) (n / 100 % 10) (n / 10 % 10) (n % 10)
    (below_ten (m / 100)) (below_ten (m / 10)) (below_ten m) (below_ten (n / 100)) (below_ten (n / 10)) (below_ten n) (subst (λ (v : ℕ). v < 1000 * (n / 1000 % 10) + 100 * (n / 100 % 10) + 10 * (n / 10 % 10) + n % 10) own (subst (λ (v : ℕ). m < v) other less))
