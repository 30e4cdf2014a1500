-- The bytes of words, taken away one word after another from the most that there may be.
use Rattle.std.proofs.Common.{◌≡◌, ℕ, ◌+◌, ◌-◌, ◌<◌, ◌≤◌, List, [], ◌∷◌, length, get_or, take, drop, true, false, sym, ap, ◌∙◌, arith}
use Rattle.std.specs.Prelude.{nat_le}
use Rattle.std.proofs.lemmas.Bool.{le-leb, lt-leb}
use Rattle.std.proofs.lemmas.List.{take_rest}
use Rattle.model_gcc.specs.Checks.{total_length}

-- the bytes of the first word and of the others
first_and_others : (rest : List (List ℕ)) (word : List ℕ) → 1 ≤ length rest → word ≡ get_or rest 0 word → total_length rest ≡ length word + total_length (take (length rest - 1) (drop 1 rest))
first_and_others [] word some is = absurd (omega (arith, some))
first_and_others (first ∷ others) word some is =
    ap (λ w. length w + total_length others) (sym is) ∙ ap (λ left. length word + total_length left) (sym (take_rest (first ∷ others) 1))

module _ (most left : ℕ) (words rest : List (List ℕ)) (word : List ℕ) (some : 1 ≤ length rest) (is : word ≡ get_or rest 0 word) (so_far : total_length words + left ≡ total_length rest + most) (size : ℕ) (length_is : size ≡ length word) where
  -- a word that has more than is left
  pub more_than_left : left < size → false ≡ nat_le (total_length words) most
  more_than_left more = let cut = first_and_others rest word some is in sym (lt-leb (total_length words) most (omega (arith, so_far, cut, length_is, more)))

  -- a word that is taken away
  pub taken_away : size ≤ left → total_length words + (left - size) ≡ total_length (take (length rest - 1) (drop 1 rest)) + most
  taken_away fits = let cut = first_and_others rest word some is in omega (arith, so_far, cut, length_is, fits)

-- no word is left
pub all_taken : (most left : ℕ) (words rest : List (List ℕ)) → length rest < 1 → total_length words + left ≡ total_length rest + most → true ≡ nat_le (total_length words) most
all_taken most left words [] none so_far = sym (le-leb (total_length words) most (omega (arith, so_far)))
all_taken most left words (word ∷ rest) none so_far = absurd (omega (arith, none))
