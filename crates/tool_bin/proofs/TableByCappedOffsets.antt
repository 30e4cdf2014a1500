-- The table of symbols by the offsets that the code computes, which stop at the greatest number.
use Rattle.std.proofs.Common.{◌≡◌, ℕ, zero, suc, ◌+◌, ◌^◌, ◌<◌, ◌⊎◌, Bool, true, false, cond, get_or, List, [], ◌∷◌, ◌++◌, length, map, Option, Some, None, refl, sym, ap, ◌∙◌, arith, inl, inr}
use Rattle.std.specs.Prelude.{replicate, flat_map}
use Rattle.std.specs.List.{list_all}
use Rattle.std.proofs.lemmas.List.{map-append, length-map, length-replicate, length-append}
use Rattle.std.proofs.lemmas.Bool.{cases_lt, le-ltb}
use Rattle.std.proofs.Math.Bool.{and-false}
use Rattle.text_lines.specs.Maybe.{◌>>=◌}
use Rattle.tool_bin.specs.Archive.{ArchiveMember}
use Rattle.tool_bin.specs.SymbolTable.{capped, zero_terminated, first_offset, fits_word, part_len, offsets_from, size_within, symbols_of, table_of, table_size, table_with, table_word, table_words}

-- ---- offsets after the first

map-replicate : (first n here : ℕ) → map (λ offset. first + offset) (replicate n here) ≡ replicate n (first + here)
map-replicate first zero here = refl
map-replicate first (suc n) here = ap (λ (v : List ℕ). (first + here) ∷ v) (map-replicate first n here)

-- offsets from another first offset
pub offsets_shifted : (first here : ℕ) (members : List ArchiveMember) → map (λ offset. first + offset) (offsets_from here members) ≡ offsets_from (first + here) members
unfolding offsets_from
offsets_shifted first here [] = refl
offsets_shifted first here (member ∷ members) =
    let len = part_len (length member.contents) in
    map-append (λ offset. first + offset) (replicate (length (symbols_of member)) here) (offsets_from (here + len) members)
    ∙ ap (λ (v : List ℕ). v ++ map (λ offset. first + offset) (offsets_from (here + len) members)) (map-replicate first (length (symbols_of member)) here)
    ∙ ap (λ (v : List ℕ). replicate (length (symbols_of member)) (first + here) ++ v)
    (offsets_shifted first (here + len) members ∙ ap (λ (n : ℕ). offsets_from n members) (let e : first + (here + len) ≡ first + here + len = omega arith in e))

-- there are as many offsets as symbols
pub length-offsets_from : (here : ℕ) (members : List ArchiveMember) → length (offsets_from here members) ≡ length (flat_map symbols_of members)
unfolding offsets_from
length-offsets_from here [] = refl
length-offsets_from here (member ∷ members) =
    let len = part_len (length member.contents) in
    length-append (replicate (length (symbols_of member)) here) (offsets_from (here + len) members)
    ∙ ap (λ (n : ℕ). n + length (offsets_from (here + len) members)) (length-replicate (length (symbols_of member)) here)
    ∙ ap (λ (n : ℕ). length (symbols_of member) + n) (length-offsets_from (here + len) members)
    ∙ sym (length-append (symbols_of member) (flat_map symbols_of members))

-- ---- capped offsets

word-capped : (first offset : ℕ) → (capped offset ≡ offset) ⊎ ((fits_word (first + capped offset) ≡ false) × (fits_word (first + offset) ≡ false))
word-capped first offset = elim (cases_lt offset (2 ^ 64)) [
  | inl small ↦ inl (omega (arith, small))
  | inr great ↦ inr (le-ltb (first + capped offset) (2 ^ 32) (omega (arith, great)), le-ltb (first + offset) (2 ^ 32) (omega (arith, great)))
]

-- capped offsets fit in the table where the offsets do, and then are the same
same_words : (first : ℕ) (offsets : List ℕ) → (map (λ offset. first + offset) (map capped offsets) ≡ map (λ offset. first + offset) offsets)
    ⊎ ((list_all fits_word (map (λ offset. first + offset) (map capped offsets)) ≡ false) × (list_all fits_word (map (λ offset. first + offset) offsets) ≡ false))
same_words first [] = inl refl
same_words first (offset ∷ offsets) =
    elim (word-capped first offset) [
      | inr unfit ↦ inr (rw (unfit.0) refl, rw (unfit.1) refl)
      | inl e ↦ elim (same_words first offsets) [
        | inr unfit ↦ inr (rw (unfit.0) (and-false (fits_word (first + capped offset))), rw (unfit.1) (and-false (fits_word (first + offset))))
        | inl es ↦ inl (ap (λ (v : ℕ). (first + v) ∷ map (λ p. first + p) (map capped offsets)) e ∙ ap (λ (v : List ℕ). (first + offset) ∷ v) es)
      ]
    ]

no_words : (offsets : List ℕ) → list_all fits_word offsets ≡ false → table_words offsets ≡ None
no_words offsets e = rw e refl

table_words-capped : (first : ℕ) (offsets : List ℕ) → table_words (map (λ offset. first + offset) (map capped offsets)) ≡ table_words (map (λ offset. first + offset) offsets)
table_words-capped first offsets = elim (same_words first offsets) [
  | inl e ↦ ap table_words e
  | inr unfit ↦ no_words (map (λ offset. first + offset) (map capped offsets)) unfit.0 ∙ sym (no_words (map (λ offset. first + offset) offsets) unfit.1)
]

-- ---- an offset that doesn't fit

no_word_by : (test : Bool) (n : ℕ) → None ≡ cond test (Some n) None → test ≡ false
no_word_by true n e = absurd cc
no_word_by false n e = refl

no_word : (n : ℕ) → None ≡ table_word n → fits_word n ≡ false
no_word n e = no_word_by (fits_word n) n e

all_fails : (first : ℕ) (offsets : List ℕ) (i : ℕ) → i < length offsets → fits_word (first + get_or offsets i 0) ≡ false → list_all fits_word (map (λ offset. first + offset) offsets) ≡ false
all_fails first [] i below unfit = absurd (omega (arith, below))
all_fails first (offset ∷ offsets) zero below unfit = rw unfit refl
all_fails first (offset ∷ offsets) (suc i) below unfit = rw (all_fails first offsets i (omega (arith, below)) unfit) (and-false (fits_word (first + offset)))

pub words_missed : (first : ℕ) (offsets : List ℕ) (i : ℕ) → i < length offsets → None ≡ table_word (first + get_or offsets i 0) → None ≡ table_words (map (λ offset. first + offset) offsets)
words_missed first offsets i below unfit = sym (no_words (map (λ offset. first + offset) offsets) (all_fails first offsets i below (no_word (first + get_or offsets i 0) unfit)))

-- ---- the table

-- the same number of symbols, names and words
with_words : (symbols others : ℕ) (offsets others_offsets names : List ℕ) → symbols ≡ others → table_words offsets ≡ table_words others_offsets → table_with symbols offsets names ≡ table_with others others_offsets names
with_words symbols others offsets others_offsets names same words = rw (same, words) refl

same_steps : (step : Option ℕ) (first second : ℕ → Option (List ℕ)) → ((n : ℕ) → first n ≡ second n) → (step >>= first) ≡ (step >>= second)
same_steps None first second same = refl
same_steps (Some n) first second same = same n

words_after : (members : List ArchiveMember) (offsets : List ℕ) (first : ℕ) → offsets ≡ map capped (offsets_from 0 members)
    → table_words (offsets_from first members) ≡ table_words (map (λ offset. first + offset) offsets)
words_after members offsets first is =
    sym (ap (λ (v : List ℕ). table_words (map (λ offset. first + offset) v)) is
    ∙ table_words-capped first (offsets_from 0 members)
    ∙ ap table_words (offsets_shifted first 0 members)
    ∙ ap (λ (n : ℕ). table_words (offsets_from n members)) (let e : first + 0 ≡ first = omega arith in e))

-- the table by the capped offsets
by_offsets : List ℕ → List ℕ → Option (List ℕ)
by_offsets offsets names = size_within (table_size (length offsets) (length names)) >>= λ size. table_with (length offsets) (map (λ offset. first_offset size + offset) offsets) names

table_by : (members : List ArchiveMember) (offsets names : List ℕ) (symbols : ℕ) → offsets ≡ map capped (offsets_from 0 members) → symbols ≡ length offsets
    → (size_within (table_size symbols (length names)) >>= λ size. table_with symbols (offsets_from (first_offset size) members) names) ≡ by_offsets offsets names
unfolding by_offsets
table_by members offsets names symbols is count_is =
    ap (λ (n : ℕ). size_within (table_size n (length names)) >>= λ size. table_with symbols (offsets_from (first_offset size) members) names) count_is
    ∙ same_steps (size_within (table_size (length offsets) (length names))) (λ size. table_with symbols (offsets_from (first_offset size) members) names) (λ size. table_with (length offsets) (map (λ offset. first_offset size + offset) offsets) names)
    (λ size. with_words symbols (length offsets) (offsets_from (first_offset size) members) (map (λ offset. first_offset size + offset) offsets) names count_is (words_after members offsets (first_offset size) is))

symbols_counted : (members : List ArchiveMember) (offsets : List ℕ) → offsets ≡ map capped (offsets_from 0 members) → length (flat_map symbols_of members) ≡ length offsets
symbols_counted members offsets is = sym (ap (λ (v : List ℕ). length v) is ∙ length-map (offsets_from 0 members) capped ∙ length-offsets_from 0 members)

table_listed : (members : List ArchiveMember) (offsets names : List ℕ) → offsets ≡ map capped (offsets_from 0 members) → names ≡ flat_map zero_terminated (flat_map symbols_of members) → table_of members ≡ by_offsets offsets names
unfolding table_of
table_listed members offsets names is_offsets is_names =
    table_by members offsets (flat_map zero_terminated (flat_map symbols_of members)) (length (flat_map symbols_of members)) is_offsets (symbols_counted members offsets is_offsets)
    ∙ ap (by_offsets offsets) (sym is_names)

-- ---- the same, as the code has it

-- there is no table of a size over the limit
pub table_over : (members : List ArchiveMember) (offsets names : List ℕ) (symbols bytes : ℕ) → offsets ≡ map capped (offsets_from 0 members) → names ≡ flat_map zero_terminated (flat_map symbols_of members)
    → symbols ≡ length offsets → bytes ≡ length names → None ≡ size_within (table_size symbols bytes) → None ≡ table_of members
unfolding by_offsets
table_over members offsets names symbols bytes is_offsets is_names is_symbols is_bytes over =
    let none = over ∙ ap (λ (n : ℕ). size_within (table_size n bytes)) is_symbols ∙ ap (λ (n : ℕ). size_within (table_size (length offsets) n)) is_bytes in
    ap (λ (step : Option ℕ). step >>= λ size. table_with (length offsets) (map (λ offset. first_offset size + offset) offsets) names) none ∙ sym (table_listed members offsets names is_offsets is_names)

-- the table of a size within the limit
pub table_within : (members : List ArchiveMember) (offsets slice names : List ℕ) (symbols bytes size first : ℕ) → offsets ≡ map capped (offsets_from 0 members) → names ≡ flat_map zero_terminated (flat_map symbols_of members)
    → symbols ≡ length offsets → bytes ≡ length names → Some size ≡ size_within (table_size symbols bytes) → first ≡ first_offset size → slice ≡ offsets
    → table_with (length slice) (map (λ offset. first + offset) slice) names ≡ table_of members
unfolding by_offsets
table_within members offsets slice names symbols bytes size first is_offsets is_names is_symbols is_bytes within is_first is_slice =
    let some = within ∙ ap (λ (n : ℕ). size_within (table_size n bytes)) is_symbols ∙ ap (λ (n : ℕ). size_within (table_size (length offsets) n)) is_bytes in
    ap (λ (v : List ℕ). table_with (length v) (map (λ offset. first + offset) v) names) is_slice
    ∙ ap (λ (n : ℕ). table_with (length offsets) (map (λ offset. n + offset) offsets) names) is_first
    ∙ ap (λ (step : Option ℕ). step >>= λ found. table_with (length offsets) (map (λ offset. first_offset found + offset) offsets) names) some
    ∙ sym (table_listed members offsets names is_offsets is_names)
