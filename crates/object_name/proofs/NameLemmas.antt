-- A name and its spelling: one to one.
use Rattle.std.proofs.Common.{◌≡◌, ◌≤◌, ◌<◌, ◌+◌, ◌*◌, ◌%◌, ◌/◌, ◌-◌, ℕ, suc, zero, Bool, true, false, cond, eqb, List, [], ◌∷◌, ◌++◌, length, take, drop, Option, Some, None, refl, sym, ap, subst, ◌∙◌, arith}
use Rattle.std.specs.Prelude.{slice_index, nat_lt, nat_le, bytes_eq, ◌&&◌, unwrap_or}
use Rattle.std.specs.List.{list_all, fold}
use Rattle.std.specs.Int.{w32, to_be_bytes}
use Rattle.std.proofs.lemmas.List.{length-append, take_at, drop_at, append-nil, take-append-drop, length-drop, take_all, drop_all}
use Rattle.std.proofs.lemmas.Slice.{put_mid-paste}
use Rattle.std.proofs.lemmas.Bool.{and_parts, and_from, le-leb, lt-ltb, leb-true, ltb-true, eqb-true, eq-eqb}
use Rattle.std.proofs.lemmas.Slice.Eq.{bytes_eq-Decides}
use Rattle.std.proofs.Math.ListN.{set}
use borrow.Rule.Slice.PartMut.{put_mid}
use Rattle.base64.specs.GeneralPurpose.{encode_of, decoded_bytes_of, IsBytes}
use Rattle.base64.specs.Engines.{url_safe_no_pad}
use Rattle.base64.proofs.RoundTrip.{length-encode_symbols, decode-encode}
use Rattle.hex.specs.Hex.{encode_lower, encode_with, hex_digit_value, lower_digits}
use Rattle.hex.proofs.HexLemmas.{length-encode_with, IsDigits-lower_digits}
use Rattle.object_name.specs.declared.kind.Kind.{Kind}
use Rattle.object_name.specs.declared.kind.Kind.TheVariants.{Value, Thunk}
use Rattle.object_name.specs.Kind.{letter_of_kind}
use Rattle.object_name.specs.Name.{ObjectName, IsName, is_name, max_size, spelling, spelled_by, named_by, hex_value}

-- ---- the test of a name

-- bytes pass the test of each
all_bytes : (d : List ℕ) → IsBytes d → list_all (λ b. nat_lt b 256) d ≡ true
all_bytes [] h = refl
all_bytes (b ∷ d) h = and_from (nat_lt b 256) (list_all (λ x. nat_lt x 256) d) (lt-ltb b 256 (h 0)) (all_bytes d (λ i. h (suc i)))

-- what passes the test of each is bytes
IsBytes-from_test : (d : List ℕ) → list_all (λ b. nat_lt b 256) d ≡ true → IsBytes d
IsBytes-from_test [] h i = omega arith
IsBytes-from_test (b ∷ d) h zero = ltb-true b 256 (and_parts (nat_lt b 256) (list_all (λ x. nat_lt x 256) d) h).0
IsBytes-from_test (b ∷ d) h (suc i) = IsBytes-from_test d (and_parts (nat_lt b 256) (list_all (λ x. nat_lt x 256) d) h).1 i

-- a name passes the test
is_name-true : (n : ObjectName) → IsName n → is_name n ≡ true
is_name-true n is =
    and_from ((eqb (length n.digest) 32) && list_all (λ b. nat_lt b 256) n.digest) (nat_le n.size max_size)
    (and_from (eqb (length n.digest) 32) (list_all (λ b. nat_lt b 256) n.digest) (eq-eqb (length n.digest) 32 is.digest) (all_bytes n.digest is.bytes))
    (le-leb n.size max_size is.size)

-- what passes the test is a name
IsName-from_test : (n : ObjectName) → is_name n ≡ true → IsName n
IsName-from_test n h =
    let parts = and_parts ((eqb (length n.digest) 32) && list_all (λ b. nat_lt b 256) n.digest) (nat_le n.size max_size) h in
    let digest = and_parts (eqb (length n.digest) 32) (list_all (λ b. nat_lt b 256) n.digest) parts.0 in
    record { digest = eqb-true (length n.digest) 32 digest.0; bytes = IsBytes-from_test n.digest digest.1; size = leb-true n.size max_size parts.1 }

-- ---- the parts of a spelling

-- a digest's text has 43 characters
pub length-digest_text : (d : List ℕ) → length d ≡ 32 → length (encode_of url_safe_no_pad d) ≡ 43
length-digest_text d whole =
    let len = length-encode_symbols url_safe_no_pad.encode_table d in
    rw append-nil (rw (len, whole) refl)

-- a size's text has eight
pub length-size_text : (n : ℕ) → length (encode_lower (to_be_bytes w32 n)) ≡ 8
length-size_text n = length-encode_with _ (to_be_bytes w32 n)

-- a spelling has 52
pub length-spelling : (n : ObjectName) → IsName n → length (spelling n) ≡ 52
unfolding spelling
length-spelling n is =
    omega (arith, length-append (encode_of url_safe_no_pad n.digest) (encode_lower (to_be_bytes w32 n.size)), length-digest_text n.digest is.digest, length-size_text n.size)

-- what stands where in a spelling
pub record HasParts (text : List ℕ) (n : ObjectName) : Type 0 where
  pub letter : slice_index text 0 ≡ letter_of_kind n.kind
  pub digest : take 43 (drop 1 text) ≡ encode_of url_safe_no_pad n.digest
  pub size : drop 44 text ≡ encode_lower (to_be_bytes w32 n.size)

-- a spelling has the parts
pub HasParts-spelling : (n : ObjectName) → IsName n → HasParts (spelling n) n
unfolding spelling
HasParts-spelling n is =
    let len = length-digest_text n.digest is.digest in
    record {
      letter = refl;
      digest = take_at (encode_of url_safe_no_pad n.digest) (encode_lower (to_be_bytes w32 n.size)) 43 len;
      size = drop_at (encode_of url_safe_no_pad n.digest) (encode_lower (to_be_bytes w32 n.size)) 43 len;
    }

-- a text of 52 characters is its parts
text_parts : (text : List ℕ) → length text ≡ 52 → text ≡ slice_index text 0 ∷ take 43 (drop 1 text) ++ drop 44 text
text_parts [] len = absurd (omega arith)
text_parts (x ∷ xs) len = ap (λ (ys : List ℕ). x ∷ ys) (sym (take-append-drop 43 xs))

-- a text with the parts is the spelling
pub spelling-HasParts : (text : List ℕ) (n : ObjectName) → length text ≡ 52 → HasParts text n → text ≡ spelling n
unfolding spelling
spelling-HasParts text n len parts = text_parts text len ∙ rw (parts.letter, parts.digest, parts.size) refl

-- ---- the name that a text spells

-- the kind of a letter
kind_of_letter : (k : Kind) (c : ℕ) → c ≡ letter_of_kind k → cond (eqb c 84) Thunk Value ≡ k
kind_of_letter Value c e = rw e refl
kind_of_letter Thunk c e = rw e refl

-- the bytes of a digest's text
decoded_digest : (d : List ℕ) → IsBytes d → decoded_bytes_of url_safe_no_pad (encode_of url_safe_no_pad d) ≡ d
decoded_digest d bytes =
    (decode-encode url_safe_no_pad.encode_table url_safe_no_pad.decode_table d url_safe_no_pad.padding.value url_safe_no_pad.config.decode_allow_trailing_bits
    url_safe_no_pad.config.decode_padding_mode url_safe_no_pad.config.encode_padding url_safe_no_pad.tables bytes refl).1

-- the value of hexadecimal digits, after some
abbrev value_after : ℕ → List ℕ → ℕ
value_after value digits = fold (λ before digit. before * 16 + unwrap_or (hex_digit_value digit) 0) value digits

-- one digit more
value_digit : (value c d : ℕ) (rest : List ℕ) → hex_digit_value c ≡ Some d → value_after value (c ∷ rest) ≡ value_after (value * 16 + d) rest
value_digit value c d rest e = ap (λ (o : Option ℕ). value_after (value * 16 + unwrap_or o 0) rest) e

-- one byte more
value_byte : (value b : ℕ) (rest : List ℕ) → b < 256 → value_after value (encode_lower (b ∷ rest)) ≡ value_after (value * 256 + b) (encode_lower rest)
unfolding encode_with
value_byte value b rest fits =
    let high = value_digit value (slice_index lower_digits (b / 16)) (b / 16) (slice_index lower_digits (b % 16) ∷ encode_lower rest) (IsDigits-lower_digits (b / 16) (omega arith)) in
    let low = value_digit (value * 16 + b / 16) (slice_index lower_digits (b % 16)) (b % 16) (encode_lower rest) (IsDigits-lower_digits (b % 16) (omega arith)) in
    let whole : (value * 16 + b / 16) * 16 + b % 16 ≡ value * 256 + b = omega arith in
    high ∙ low ∙ ap (λ (v : ℕ). value_after v (encode_lower rest)) whole

-- no digit more
value_none : (value : ℕ) → value_after value (encode_lower []) ≡ value
unfolding encode_with
value_none value = refl

-- the value of a size's text
hex_value-size_text : (n : ℕ) → n ≤ max_size → hex_value (encode_lower (to_be_bytes w32 n)) ≡ n
hex_value-size_text n small =
    let b0 = n / 16777216 % 256 in
    let b1 = n / 65536 % 256 in
    let b2 = n / 256 % 256 in
    let b3 = n % 256 in
    let whole : ((((0 * 256 + n / 16777216 % 256) * 256 + n / 65536 % 256) * 256 + n / 256 % 256) * 256 + n % 256) ≡ n = omega arith in
    value_byte 0 b0 (b1 ∷ b2 ∷ b3 ∷ []) (omega arith)
    ∙ value_byte (0 * 256 + b0) b1 (b2 ∷ b3 ∷ []) (omega arith)
    ∙ value_byte ((0 * 256 + b0) * 256 + b1) b2 (b3 ∷ []) (omega arith)
    ∙ value_byte (((0 * 256 + b0) * 256 + b1) * 256 + b2) b3 [] (omega arith)
    ∙ value_none ((((0 * 256 + b0) * 256 + b1) * 256 + b2) * 256 + b3)
    ∙ whole

-- a text with the parts of a name spells it
spelled_by-parts : (text : List ℕ) (n : ObjectName) → IsName n → HasParts text n → spelled_by text ≡ n
spelled_by-parts text n is parts =
    let kind = kind_of_letter n.kind (slice_index text 0) parts.letter in
    let digest = ap (decoded_bytes_of url_safe_no_pad) parts.digest ∙ decoded_digest n.digest is.bytes in
    let size = ap hex_value parts.size ∙ hex_value-size_text n.size is.size in
    rw (kind, digest, size) refl

-- ---- the laws

-- a choice where the test holds
choose : (b : Bool) (m n : ObjectName) → b ≡ true → m ≡ n → ◌≡◌ {A = Option ObjectName} (cond b (Some m) None) (Some n)
choose true m n holds e = ap Some e
choose false m n holds e = cc holds

-- the name that a text spells, if it is a name and has that spelling
named_by-spelled : (text : List ℕ) (n : ObjectName) → spelled_by text ≡ n → is_name n ≡ true → bytes_eq (spelling n) text ≡ true → named_by text ≡ Some n
unfolding named_by
named_by-spelled text n e name same =
    choose (is_name (spelled_by text) && bytes_eq (spelling (spelled_by text)) text) (spelled_by text) n
    (and_from (is_name (spelled_by text)) (bytes_eq (spelling (spelled_by text)) text) (ap is_name e ∙ name) (ap (λ (m : ObjectName). bytes_eq (spelling m) text) e ∙ same)) e

-- reading a spelling gives the name
pub named_by-spelling : (n : ObjectName) → IsName n → named_by (spelling n) ≡ Some n
named_by-spelling n is =
    named_by-spelled (spelling n) n (spelled_by-parts (spelling n) n is (HasParts-spelling n is)) (is_name-true n is)
    ((bytes_eq-Decides (spelling n) (spelling n)).1 refl)

-- a choice that gave something
chosen : (b : Bool) (n m : ObjectName) → ◌≡◌ {A = Option ObjectName} (cond b (Some n) None) (Some m) → (b ≡ true) × (n ≡ m)
chosen true n m e = (refl, cc e)
chosen false n m e = cc e

-- what is read is a name with that spelling
pub spelling-named_by : (text : List ℕ) (n : ObjectName) → named_by text ≡ Some n → IsName n × (text ≡ spelling n)
unfolding named_by
spelling-named_by text n e =
    let made = chosen (is_name (spelled_by text) && bytes_eq (spelling (spelled_by text)) text) (spelled_by text) n e in
    let parts = and_parts (is_name (spelled_by text)) (bytes_eq (spelling (spelled_by text)) text) made.0 in
    let same = (bytes_eq-Decides (spelling (spelled_by text)) text).0 parts.1 in
    (subst IsName made.1 (IsName-from_test (spelled_by text) parts.0), sym same ∙ ap spelling made.1)

-- two names with one spelling are one name
pub one_spelling : (m n : ObjectName) → IsName m → IsName n → spelling m ≡ spelling n → m ≡ n
one_spelling m n is_m is_n e =
    let a = named_by-spelling m is_m in
    let b = named_by-spelling n is_n in
    let c : Some m ≡ Some n = sym a ∙ ap named_by e ∙ b in
    cc c

-- an answer that is none of the values
none_from : (o : Option ObjectName) → ((n : ObjectName) → o ≡ Some n → ◌≡◌ {A = Option ObjectName} None (Some n)) → ◌≡◌ {A = Option ObjectName} None o
none_from None f = refl
none_from (Some n) f = f n refl

-- where no name is read, the text spells none
pub none_named : (text : List ℕ) → ((n : ObjectName) → IsName n → text ≡ spelling n → ◌≡◌ {A = Option ObjectName} None (Some n)) → ◌≡◌ {A = Option ObjectName} None (named_by text)
none_named text only = none_from (named_by text) (λ n e. let law = spelling-named_by text n e in only n law.0 law.1)

-- where a name is read, it is the one that the text spells
pub some_named : (text : List ℕ) (n : ObjectName) → IsName n → text ≡ spelling n → Some n ≡ named_by text
some_named text n is e = sym (ap named_by e ∙ named_by-spelling n is)

-- a text that is a spelling has the parts
pub HasParts-spelled : (text : List ℕ) (n : ObjectName) → IsName n → text ≡ spelling n → HasParts text n
HasParts-spelled text n is e = subst (λ (t : List ℕ). HasParts t n) (sym e) (HasParts-spelling n is)

-- a letter and two texts, written one after another
written : (text a b : List ℕ) (x : ℕ) → length text ≡ 52 → length a ≡ 43 → length b ≡ 8 → put_mid 44 8 (put_mid 1 43 (set text 0 x) a) b ≡ x ∷ a ++ b
written [] a b x len len_a len_b = absurd (omega arith)
written (y ∷ ys) a b x len len_a len_b =
    let first = put_mid-paste 1 43 (x ∷ ys) a a 43 refl refl (sym len_a) in
    let whole_a : take 43 a ≡ a = take_all 43 a (omega (arith, len_a)) in
    let whole_b : take 8 b ≡ b = take_all 8 b (omega (arith, len_b)) in
    let then_a : put_mid 1 43 (x ∷ ys) a ≡ x ∷ a ++ drop 43 ys = first ∙ ap (λ (l : List ℕ). x ∷ l ++ drop 43 ys) whole_a in
    let second = put_mid-paste 44 8 (x ∷ a ++ drop 43 ys) b b 8 refl refl (sym len_b) in
    let prefix : take 43 (a ++ drop 43 ys) ≡ a = take_at a (drop 43 ys) 43 len_a in
    let rest : drop 51 (a ++ drop 43 ys) ≡ [] = drop_all 51 (a ++ drop 43 ys) (omega (arith, length-append a (drop 43 ys), length-drop 43 ys, len_a, len)) in
    ap (λ (l : List ℕ). put_mid 44 8 l b) then_a ∙ second ∙ rw (prefix, whole_b, rest, append-nil (a ++ b)) refl

-- the letter, the digest's text and the size's text are the spelling
pub spelling_written : (text digest size : List ℕ) (letter : ℕ) (n : ObjectName) → length text ≡ 52 → letter ≡ letter_of_kind n.kind → length digest ≡ 43 → digest ≡ encode_of url_safe_no_pad n.digest
    → length size ≡ 8 → size ≡ encode_lower (to_be_bytes w32 n.size) → put_mid 44 8 (put_mid 1 43 (set text 0 letter) digest) size ≡ spelling n
unfolding spelling
spelling_written text digest size letter n len first whole_digest second whole_size third =
    written text digest size letter len whole_digest whole_size ∙ ap (λ (c : ℕ). c ∷ digest ++ size) first
    ∙ ap (λ (l : List ℕ). letter_of_kind n.kind ∷ l ++ size) second ∙ ap (λ (l : List ℕ). letter_of_kind n.kind ∷ encode_of url_safe_no_pad n.digest ++ l) third

-- what stands after the digest, to the end
pub size_part : (text : List ℕ) → take (length text - 44) (drop 44 text) ≡ drop 44 text
size_part text = take_all (length text - 44) (drop 44 text) (omega (arith, length-drop 44 text))
