-- Lines and words that are written with single spaces are read back.
use Rattle.std.proofs.Common.{◌≡◌, ℕ, suc, ◌<◌, ◌≤◌, ◌^◌, Bool, true, false, List, [], ◌∷◌, ◌++◌, length, get_or, decimal, ◌==◌, ◌&&◌, ◌||◌, not, refl, ap, ◌∙◌, inl, inr, arith}
use Rattle.std.proofs.lemmas.Bool.{and_parts, and_from, or_cases, or_parts, or_from, not-true, not_from_false, leb-true, eqb-true, ne_eqb}
use Rattle.std.specs.Prelude.{nat_le}
use Rattle.std.specs.List.{list_all}
use Rattle.object_name.proofs.PublicLaws.{decimal_digit_at, length-decimal-pos}
use Rattle.text_lines.specs.Lines.{onto, lines_of}
use Rattle.text_lines.specs.Blanks.{is_blank, words_of}
use Rattle.thunk_codec.specs.Thunk.{is_letter, is_digit, is_identifier}

-- a byte other than a line feed
abbrev pub is_no_feed : ℕ → Bool
is_no_feed byte = not (byte == 10)

-- a byte other than a blank and a line feed
abbrev pub is_plain : ℕ → Bool
is_plain byte = not (is_blank byte || (byte == 10))

no_blank : (byte : ℕ) → is_plain byte ≡ true → is_blank byte ≡ false
no_blank byte p = (or_parts (is_blank byte) (byte == 10) (not-true (is_blank byte || (byte == 10)) p)).0

pub no_feed : (byte : ℕ) → is_plain byte ≡ true → is_no_feed byte ≡ true
no_feed byte p = not_from_false (byte == 10) ((or_parts (is_blank byte) (byte == 10) (not-true (is_blank byte || (byte == 10)) p)).1)

pub no_feeds : (word : List ℕ) → list_all is_plain word ≡ true → list_all is_no_feed word ≡ true
no_feeds [] p = refl
no_feeds (byte ∷ word) p =
    let q = and_parts (is_plain byte) (list_all is_plain word) p in
    and_from (is_no_feed byte) (list_all is_no_feed word) (no_feed byte q.0) (no_feeds word q.1)

-- a byte from 33 on is plain
pub plain_from : (byte : ℕ) → 33 ≤ byte → is_plain byte ≡ true
plain_from byte far = not_from_false (is_blank byte || (byte == 10)) (or_from (is_blank byte) (byte == 10)
    (or_from (byte == 32) (byte == 9) (ne_eqb byte 32 (omega arith)) (ne_eqb byte 9 (omega arith))) (ne_eqb byte 10 (omega arith)))

-- ---- lines

feed_apart : (byte : ℕ) (text : List ℕ) → is_no_feed byte ≡ true → lines_of (byte ∷ text) ≡ onto byte (lines_of text)
feed_apart byte text p = rw (not-true (byte == 10) p) refl

pub line_first : (said rest : List ℕ) → list_all is_no_feed said ≡ true → lines_of ((said ++ 10 ∷ []) ++ rest) ≡ said ∷ lines_of rest
line_first [] rest p = refl
line_first (byte ∷ said) rest p =
    let q = and_parts (is_no_feed byte) (list_all is_no_feed said) p in
    feed_apart byte ((said ++ 10 ∷ []) ++ rest) q.0 ∙ ap (onto byte) (line_first said rest q.1)

-- ---- words

goes_on : (byte other : ℕ) (text : List ℕ) → is_blank byte ≡ false → is_blank other ≡ false → words_of (byte ∷ other ∷ text) ≡ onto byte (words_of (other ∷ text))
goes_on byte other text p q = rw (p, q) refl

ends_at : (byte : ℕ) (text : List ℕ) → is_blank byte ≡ false → words_of (byte ∷ 32 ∷ text) ≡ (byte ∷ []) ∷ words_of text
ends_at byte text p = rw p refl

ends_here : (byte : ℕ) → is_blank byte ≡ false → words_of (byte ∷ []) ≡ (byte ∷ []) ∷ []
ends_here byte p = rw p refl

pub word_first : (word text : List ℕ) → list_all is_plain word ≡ true → 0 < length word → words_of (word ++ 32 ∷ text) ≡ word ∷ words_of text
word_first [] text p some = absurd (omega arith)
word_first (byte ∷ []) text p some = ends_at byte text (no_blank byte (and_parts (is_plain byte) true p).0)
word_first (byte ∷ other ∷ word) text p some =
    let q = and_parts (is_plain byte) (list_all is_plain (other ∷ word)) p in
    let r = and_parts (is_plain other) (list_all is_plain word) q.1 in
    goes_on byte other (word ++ 32 ∷ text) (no_blank byte q.0) (no_blank other r.0) ∙ ap (onto byte) (word_first (other ∷ word) text q.1 (omega arith))

pub word_last : (word : List ℕ) → list_all is_plain word ≡ true → 0 < length word → words_of word ≡ word ∷ []
word_last [] p some = absurd (omega arith)
word_last (byte ∷ []) p some = ends_here byte (no_blank byte (and_parts (is_plain byte) true p).0)
word_last (byte ∷ other ∷ word) p some =
    let q = and_parts (is_plain byte) (list_all is_plain (other ∷ word)) p in
    let r = and_parts (is_plain other) (list_all is_plain word) q.1 in
    goes_on byte other word (no_blank byte q.0) (no_blank other r.0) ∙ ap (onto byte) (word_last (other ∷ word) q.1 (omega arith))

-- ---- numbers and identifiers

each_plain : (text : List ℕ) → ((i : ℕ) → i < length text → 33 ≤ get_or text i 0) → list_all is_plain text ≡ true
each_plain [] far = refl
each_plain (byte ∷ text) far = and_from (is_plain byte) (list_all is_plain text) (plain_from byte (far 0 (omega arith))) (each_plain text (λ i below. far (suc i) (omega arith)))

pub plain_number : (n : ℕ) → n < 2 ^ 64 → list_all is_plain (decimal n) ≡ true
plain_number n fits = each_plain (decimal n) (λ i below. let digit = (decimal_digit_at n i fits below).0 in omega (arith, digit))

pub some_number : (n : ℕ) → n < 2 ^ 64 → 0 < length (decimal n)
some_number = length-decimal-pos

letter_far : (byte : ℕ) → is_letter byte ≡ true → 33 ≤ byte
letter_far byte p = elim (or_cases ((nat_le 65 byte && nat_le byte 90) || (nat_le 97 byte && nat_le byte 122)) (byte == 95) p) [
  | inl q ↦ elim (or_cases (nat_le 65 byte && nat_le byte 90) (nat_le 97 byte && nat_le byte 122) q) [
    | inl r ↦ omega (arith, leb-true 65 byte (and_parts (nat_le 65 byte) (nat_le byte 90) r).0)
    | inr r ↦ omega (arith, leb-true 97 byte (and_parts (nat_le 97 byte) (nat_le byte 122) r).0)
  ]
  | inr q ↦ omega (arith, eqb-true byte 95 q)
]

digit_far : (byte : ℕ) → is_digit byte ≡ true → 33 ≤ byte
digit_far byte p = omega (arith, leb-true 48 byte (and_parts (nat_le 48 byte) (nat_le byte 57) p).0)

either_far : (byte : ℕ) → (is_letter byte || is_digit byte) ≡ true → 33 ≤ byte
either_far byte p = elim (or_cases (is_letter byte) (is_digit byte) p) [
  | inl q ↦ letter_far byte q
  | inr q ↦ digit_far byte q
]

plain_others : (text : List ℕ) → list_all (λ byte. is_letter byte || is_digit byte) text ≡ true → list_all is_plain text ≡ true
plain_others [] p = refl
plain_others (byte ∷ text) p =
    let q = and_parts (is_letter byte || is_digit byte) (list_all (λ byte. is_letter byte || is_digit byte) text) p in
    and_from (is_plain byte) (list_all is_plain text) (plain_from byte (either_far byte q.0)) (plain_others text q.1)

pub plain_identifier : (text : List ℕ) → is_identifier text ≡ true → list_all is_plain text ≡ true
plain_identifier [] p = refl
plain_identifier (byte ∷ text) p =
    let q = and_parts (is_letter byte) (list_all (λ byte. is_letter byte || is_digit byte) text) p in
    and_from (is_plain byte) (list_all is_plain text) (plain_from byte (letter_far byte q.0)) (plain_others text q.1)

pub some_identifier : (text : List ℕ) → is_identifier text ≡ true → 0 < length text
some_identifier [] p = absurd cc
some_identifier (byte ∷ text) p = omega arith
