-- The fields of a header are read back as they were written.
use Rattle.std.proofs.Common.{◌≡◌, ℕ, zero, suc, ◌+◌, ◌-◌, ◌<◌, ◌≤◌, ◌^◌, true, not, ◌&&◌, ltb, leb, eqb, List, [], ◌∷◌, ◌++◌, length, take, drop, append_assoc, length-append, Some, refl, sym, ap, ◌∙◌, arith}
use Rattle.std.specs.Prelude.{replicate, decimal, nat_eq}
use Rattle.std.specs.Char.{is_ascii_digit}
use Rattle.std.specs.Str.{all_ascii_digits}
use Rattle.std.specs.List.{list_all, prefix_len, starts_with}
use Rattle.std.proofs.lemmas.List.{take_at, drop_at}
use Rattle.std.proofs.lemmas.Bool.{and_parts, lt-ltb, le-leb, leb-true}
use Rattle.std.proofs.lemmas.Bool.Decides.{Decides-eqb}
use Rattle.std.proofs.lemmas.Slice.Eq.{starts_is}
use Rattle.object_name.specs.Number.{digits_value}
use Rattle.object_name.proofs.PublicLaws.{digits_value-decimal, digits-decimal, length-decimal-pos}
use Rattle.text_lines.specs.Cuts.{strip_prefix}
use Rattle.tool_bin.specs.Archive.{field, is_member_name, is_name_byte, padding}
use Rattle.tool_bin.specs.ArchiveReading.{contents_at, is_slash, is_space, name_in, size_in}

-- ---- spaces

pub spaces_alone : (n : ℕ) → list_all is_space (replicate n 32) ≡ true
spaces_alone zero = refl
spaces_alone (suc n) = spaces_alone n

no_digits : (n : ℕ) → prefix_len is_ascii_digit (replicate n 32) ≡ 0
no_digits zero = refl
no_digits (suc n) = refl

-- ---- the size

-- digits before spaces are the digits at the beginning
digits_prefix : (digits : List ℕ) (n : ℕ) → all_ascii_digits digits ≡ true → prefix_len is_ascii_digit (digits ++ replicate n 32) ≡ length digits
digits_prefix [] n all = no_digits n
digits_prefix (digit ∷ digits) n all =
    let parts = and_parts (is_ascii_digit digit) (all_ascii_digits digits) all in
    rw (parts.0) (ap (λ (k : ℕ). 1 + k) (digits_prefix digits n parts.1) ∙ (let e : 1 + length digits ≡ suc (length digits) = omega arith in e))

size_by : (digits : List ℕ) (n : ℕ) → all_ascii_digits digits ≡ true → 1 ≤ length digits → size_in (digits ++ replicate n 32) ≡ Some (digits_value digits)
unfolding size_in
size_by digits n all some =
    let prefix = digits_prefix digits n all in
    let taken : take (prefix_len is_ascii_digit (digits ++ replicate n 32)) (digits ++ replicate n 32) ≡ digits = take_at digits (replicate n 32) _ (sym prefix) in
    rw (taken, drop_at digits (replicate n 32) (length digits) refl, le-leb 1 (length digits) some, spaces_alone n) refl

-- a size is read from its field
pub size_read : (n : ℕ) → n < 10 ^ 10 → size_in (field 10 (decimal n)) ≡ Some n
size_read n small =
    let fits : n < 2 ^ 64 = omega (arith, small) in
    size_by (decimal n) (10 - length (decimal n)) (digits-decimal n fits) (length-decimal-pos n fits) ∙ ap (λ (k : ℕ). Some k) (digits_value-decimal n fits)

-- ---- the name

name_prefix : (name after : List ℕ) → list_all is_name_byte name ≡ true → prefix_len (λ byte. not (is_slash byte)) (name ++ 47 ∷ after) ≡ length name
name_prefix [] after all = refl
name_prefix (byte ∷ name) after all =
    let parts = and_parts (is_name_byte byte) (list_all is_name_byte name) all in
    let bounds = and_parts (leb 33 byte) (leb byte 126 && not (eqb byte 47)) parts.0 in
    let other = and_parts (leb byte 126) (not (eqb byte 47)) bounds.1 in
    rw (other.1) (ap (λ (k : ℕ). 1 + k) (name_prefix name after parts.1) ∙ (let e : 1 + length name ≡ suc (length name) = omega arith in e))

name_by : (name spaces : List ℕ) → is_member_name name ≡ true → list_all is_name_byte name ≡ true → list_all is_space spaces ≡ true → name_in (name ++ 47 ∷ spaces) ≡ Some name
unfolding name_in
name_by name spaces good bytes blank =
    let prefix = name_prefix name spaces bytes in
    let within : ltb (length name) (length (name ++ 47 ∷ spaces)) ≡ true = lt-ltb (length name) (length (name ++ 47 ∷ spaces)) (omega (arith, length-append name (47 ∷ spaces))) in
    let after : drop (length name + 1) (name ++ 47 ∷ spaces) ≡ spaces = ap (drop (length name + 1)) (sym (append_assoc name (47 ∷ []) spaces)) ∙ drop_at (name ++ 47 ∷ []) spaces (length name + 1) (length-append name (47 ∷ [])) in
    rw (prefix, within, after, take_at name (47 ∷ spaces) (length name) refl, good, blank) refl

-- the bytes of a name
pub name_bytes : (name : List ℕ) → is_member_name name ≡ true → list_all is_name_byte name ≡ true
name_bytes name good =
    let parts = and_parts (leb 1 (length name)) (leb (length name) 15 && list_all is_name_byte name) good in
    (and_parts (leb (length name) 15) (list_all is_name_byte name) parts.1).1

-- a name has 1 to 15 bytes
pub name_len : (name : List ℕ) → is_member_name name ≡ true → (1 ≤ length name) × (length name ≤ 15)
name_len name good =
    let parts = and_parts (leb 1 (length name)) (leb (length name) 15 && list_all is_name_byte name) good in
    (leb-true 1 (length name) parts.0, leb-true (length name) 15 (and_parts (leb (length name) 15) (list_all is_name_byte name) parts.1).0)

-- a name is read from its field
pub name_read : (name : List ℕ) → is_member_name name ≡ true → name_in (field 16 (name ++ 47 ∷ [])) ≡ Some name
name_read name good =
    let spaces = replicate (16 - length (name ++ 47 ∷ [])) 32 in
    ap name_in (append_assoc name (47 ∷ []) spaces) ∙ name_by name spaces good (name_bytes name good) (spaces_alone (16 - length (name ++ 47 ∷ [])))

-- ---- the contents

-- a mark is found where it stands
pub after_found : (mark rest : List ℕ) → strip_prefix mark (mark ++ rest) ≡ Some rest
after_found mark rest =
    let starts : starts_with nat_eq (mark ++ rest) mark ≡ true = (starts_is Decides-eqb (mark ++ rest) mark _ refl).1 rest refl in
    rw (starts, drop_at mark rest (length mark) refl) refl

-- contents are read
pub contents_read : (contents rest : List ℕ) → contents_at (length contents) (contents ++ (padding (length contents) ++ rest)) ≡ Some (contents, rest)
unfolding contents_at
contents_read contents rest =
    let whole = contents ++ (padding (length contents) ++ rest) in
    let fits : leb (length contents) (length whole) ≡ true = le-leb (length contents) (length whole) (omega (arith, length-append contents (padding (length contents) ++ rest))) in
    rw (fits, drop_at contents (padding (length contents) ++ rest) (length contents) refl, take_at contents (padding (length contents) ++ rest) (length contents) refl, after_found (padding (length contents)) rest) refl
