-- Canonical decimal numbers: a number and its text, one to one.
use Rattle.std.proofs.Common.{◌≡◌, ◌≤◌, ◌<◌, ◌+◌, ◌*◌, ◌^◌, ◌-◌, ℕ, suc, zero, Bool, true, false, List, [], ◌∷◌, ◌++◌, length, take, get_or, cond, Option, Some, None, inl, inr, refl, sym, ap, ◌∙◌, arith, rules}
use Rattle.std.specs.Prelude.{decimal, fold, nat_lt, bytes_eq, ◌&&◌, IfSome, IsTrue}
use Rattle.std.specs.Str.{all_ascii_digits}
use Rattle.std.specs.Char.{is_ascii_digit}
use Rattle.std.proofs.lemmas.List.{take_more}
use Rattle.std.proofs.lemmas.Str.Parse.{digit_at, IsNumeralModel, numerals_by_fold}
use Rattle.std.proofs.lemmas.Fmt.{decimal-digits_value, digits_value-decimal as value_of_decimal, digits_decimal, decimal_nonempty, decimal_digit, first_decimal}
use Rattle.std.proofs.lemmas.List.Sums.{fold_more}
use Rattle.std.proofs.lemmas.Bool.{cases_lt, and_parts, and_from, lt-ltb, ltb-true}
use Rattle.std.proofs.lemmas.Slice.Eq.{bytes_eq-Decides}
use Rattle.object_name.specs.Number.{digits_value, number_of}

-- the value of digits, after some
-- digits have the value that `digits_value` says
pub numerals : IsNumeralModel (λ ds. all_ascii_digits ds ≡ true) digits_value
numerals = numerals_by_fold _ (search rules) (λ n ds. fold (λ value digit. value * 10 + (digit - 48)) n ds) (search rules)

-- a digit among digits
digit_in : (ds : List ℕ) (i : ℕ) → all_ascii_digits ds ≡ true → i < length ds → (48 ≤ get_or ds i 0) × (get_or ds i 0 ≤ 57)
digit_in ds i digits below = digit_at ds i (numerals.to ds digits) below

-- digits and no leading zero: what `decimal` writes
pub decimal-digits : (text : List ℕ) → all_ascii_digits text ≡ true → 0 < length text → (get_or text 0 0 ≡ 48 → length text ≡ 1) → digits_value text < 2 ^ 64 → text ≡ decimal (digits_value text)
decimal-digits text digits some canonical fits = sym (decimal-digits_value numerals text digits some canonical fits)

-- the value of a number's text
pub digits_value-decimal : (n : ℕ) → n < 2 ^ 64 → digits_value (decimal n) ≡ n
digits_value-decimal n fits = value_of_decimal numerals n fits

-- a number's text is digits
pub digits-decimal : (n : ℕ) → n < 2 ^ 64 → all_ascii_digits (decimal n) ≡ true
digits-decimal n fits = digits_decimal numerals n fits

-- a choice that gave something
chosen : (b : Bool) (m n : ℕ) → ◌≡◌ {A = Option ℕ} (cond b (Some m) None) (Some n) → (b ≡ true) × (m ≡ n)
chosen true m n e = (refl, cc e)
chosen false m n e = cc e

-- a choice where the test holds
choose : (b : Bool) (m n : ℕ) → b ≡ true → m ≡ n → ◌≡◌ {A = Option ℕ} (cond b (Some m) None) (Some n)
choose true m n holds e = ap Some e
choose false m n holds e = cc holds

-- reading a number's text gives the number
pub number_of-decimal : (n : ℕ) → n < 2 ^ 64 → number_of (decimal n) ≡ Some n
unfolding number_of
number_of-decimal n fits =
    let value = digits_value-decimal n fits in
    choose (nat_lt (digits_value (decimal n)) (2 ^ 64) && bytes_eq (decimal (digits_value (decimal n))) (decimal n)) (digits_value (decimal n)) n
    (and_from (nat_lt (digits_value (decimal n)) (2 ^ 64)) (bytes_eq (decimal (digits_value (decimal n))) (decimal n))
    (lt-ltb (digits_value (decimal n)) (2 ^ 64) (omega (arith, value, fits)))
    ((bytes_eq-Decides (decimal (digits_value (decimal n))) (decimal n)).1 (ap decimal value))) value

-- what is read is a number below 2 ^ 64 with that text
pub decimal-number_of : (text : List ℕ) (n : ℕ) → number_of text ≡ Some n → (n < 2 ^ 64) × (text ≡ decimal n)
unfolding number_of
decimal-number_of text n e =
    let made = chosen (nat_lt (digits_value text) (2 ^ 64) && bytes_eq (decimal (digits_value text)) text) (digits_value text) n e in
    let parts = and_parts (nat_lt (digits_value text) (2 ^ 64)) (bytes_eq (decimal (digits_value text)) text) made.0 in
    let small = ltb-true (digits_value text) (2 ^ 64) parts.0 in
    let same = (bytes_eq-Decides (decimal (digits_value text)) text).0 parts.1 in
    let is = made.1 in
    (omega (arith, small, is), sym same ∙ ap decimal made.1)

-- an answer that is none of the values
none_from : (o : Option ℕ) → ((n : ℕ) → o ≡ Some n → ◌≡◌ {A = Option ℕ} None (Some n)) → ◌≡◌ {A = Option ℕ} None o
none_from None f = refl
none_from (Some n) f = f n refl

-- where no number is read, the text is none's
pub none_numbered : (text : List ℕ) → ((n : ℕ) → n < 2 ^ 64 → text ≡ decimal n → ◌≡◌ {A = Option ℕ} None (Some n)) → ◌≡◌ {A = Option ℕ} None (number_of text)
none_numbered text only = none_from (number_of text) (λ n e. let law = decimal-number_of text n e in only n law.0 law.1)

-- where a number is read, it is the one that the text says
pub some_numbered : (text : List ℕ) (n : ℕ) → n < 2 ^ 64 → text ≡ decimal n → Some n ≡ number_of text
some_numbered text n fits e = sym (ap number_of e ∙ number_of-decimal n fits)

-- no number's text is empty
pub length-decimal-pos : (n : ℕ) → n < 2 ^ 64 → 0 < length (decimal n)
length-decimal-pos n fits = decimal_nonempty n fits

-- a number's text has digits alone
pub decimal_digit_at : (n i : ℕ) → n < 2 ^ 64 → i < length (decimal n) → (48 ≤ get_or (decimal n) i 0) × (get_or (decimal n) i 0 ≤ 57)
decimal_digit_at n i fits below = digit_in (decimal n) i (digits-decimal n fits) below

-- a number's text begins with a zero only where it is `0`
pub decimal_canonical : (n : ℕ) → n < 2 ^ 64 → get_or (decimal n) 0 0 ≡ 48 → length (decimal n) ≡ 1
decimal_canonical n fits zero_first = elim (cases_lt 0 n) [
  | inl above ↦ let first = first_decimal n above fits in absurd (omega (arith, first, zero_first))
  | inr none ↦ let e : n ≡ 0 = omega arith in ap (λ (k : ℕ). length (decimal k)) e ∙ ap length (decimal_digit 0 (omega arith))
]

-- digits after a value don't make it less
value_after_ge : (value : ℕ) (ds : List ℕ) → value ≤ fold (λ before digit. before * 10 + (digit - 48)) value ds
value_after_ge value [] = omega arith
value_after_ge value (d ∷ ds) = omega (arith, value_after_ge (value * 10 + (d - 48)) ds)

-- the value of a prefix after a value is at most that of the whole
value_after-take : (value : ℕ) (ds : List ℕ) (i : ℕ) → fold (λ before digit. before * 10 + (digit - 48)) value (take i ds) ≤ fold (λ before digit. before * 10 + (digit - 48)) value ds
value_after-take value ds zero = value_after_ge value ds
value_after-take value [] (suc i) = omega arith
value_after-take value (d ∷ ds) (suc i) = value_after-take (value * 10 + (d - 48)) ds i

-- the value of a prefix of digits is at most that of the whole
pub digits_value-take : (text : List ℕ) (i : ℕ) → digits_value (take i text) ≤ digits_value text
digits_value-take text i = value_after-take 0 text i

-- the value of one digit more
pub digits_value_more : (text : List ℕ) (i : ℕ) → i < length text → digits_value (take (i + 1) text) ≡ digits_value (take i text) * 10 + (get_or text i 0 - 48)
digits_value_more text i below = fold_more (λ (before : ℕ) (digit : ℕ). before * 10 + (digit - 48)) 0 text i 0 below

-- a prefix that would be too great as it is, or with the next digit, is no prefix of a number below 2 ^ 64
pub too_great : (text : List ℕ) (i value high : ℕ) → i < length text → value ≡ digits_value (take i text) → high ≤ value * 10 + (get_or text i 0 - 48) → digits_value text < high → ⊥
too_great text i value high below is over fits =
    let more = digits_value_more text i below in
    let most = digits_value-take text (i + 1) in
    omega (arith, more, most, is, over, fits)

-- the test of one digit more at the end
digits_push : (ds : List ℕ) (c : ℕ) → all_ascii_digits ds ≡ true → is_ascii_digit c ≡ true → all_ascii_digits (ds ++ c ∷ []) ≡ true
digits_push [] c digits here = and_from (is_ascii_digit c) true here refl
digits_push (d ∷ ds) c digits here =
    let parts = and_parts (is_ascii_digit d) (all_ascii_digits ds) digits in
    and_from (is_ascii_digit d) (all_ascii_digits (ds ++ c ∷ [])) parts.0 (digits_push ds c parts.1 here)

-- the test of one digit more
pub digits_more : (text : List ℕ) (i : ℕ) → i < length text → all_ascii_digits (take i text) ≡ true → is_ascii_digit (get_or text i 0) ≡ true → all_ascii_digits (take (i + 1) text) ≡ true
digits_more text i below digits here = ap all_ascii_digits (take_more text i 0 below) ∙ digits_push (take i text) (get_or text i 0) digits here

-- a digit among digits passes the test
pub digit_test_at : (text : List ℕ) (i : ℕ) → i < length text → all_ascii_digits text ≡ true → is_ascii_digit (get_or text i 0) ≡ true
digit_test_at [] i below digits = absurd (omega arith)
digit_test_at (d ∷ ds) zero below digits = (and_parts (is_ascii_digit d) (all_ascii_digits ds) digits).0
digit_test_at (d ∷ ds) (suc i) below digits = digit_test_at ds i (omega arith) (and_parts (is_ascii_digit d) (all_ascii_digits ds) digits).1

-- what reading digits answers is what reading a number answers, where no zero comes first
pub number_from_digits : (text : List ℕ) (r : Option ℕ) → 0 < length text → (get_or text 0 0 ≡ 48 → length text ≡ 1) → IfSome r (λ n. IsTrue (all_ascii_digits text) × (n ≡ digits_value text))
    → (IsTrue (all_ascii_digits text) → digits_value text < 2 ^ 64 → r ≡ Some (digits_value text)) → IfSome r (λ n. n < 2 ^ 64) → r ≡ number_of text
number_from_digits text None some canonical found only fits = none_numbered text (λ n small e.
    let value = ap digits_value e ∙ digits_value-decimal n small in
    let digits = ap all_ascii_digits e ∙ digits-decimal n small in
    let read = only digits (omega (arith, value, small)) in
    cc read)
number_from_digits text (Some n) some canonical found only fits =
    let value = found.1 in
    let small : digits_value text < 2 ^ 64 = omega (arith, value, fits) in
    ap Some found.1 ∙ some_numbered text (digits_value text) small (decimal-digits text found.0 some canonical small)

-- what was read is a number's text
pub decimal_from_read : (text : List ℕ) (r : Option ℕ) → r ≡ number_of text → IfSome r (λ n. text ≡ decimal n)
decimal_from_read text None e = tt
decimal_from_read text (Some n) e = (decimal-number_of text n (sym e)).1
