-- Texts that are paths: what is read of them, and names of inputs by numbers of four digits.
use Rattle.std.proofs.Common.{◌≡◌, ℕ, ◌/◌, true, List, Some, None, refl, sym, ◌∙◌, arith}
use Rattle.std.specs.List.{list_all}
use Rattle.std.proofs.lemmas.Bool.{and_from, le-leb}
use Rattle.std.proofs.lemmas.Option.{same_Some}
use Rattle.thunk_codec.specs.Path.{path_of, is_path}
use Rattle.thunk_codec.specs.Thunk.{is_digit}
use Rattle.thunk_codec.proofs.PublicLaws.{path_of-is_path}
use Rattle.build_plan.specs.Numbered.{last_digit, four_digits}

-- a path is read
pub path_found : (text : List ℕ) → is_path text ≡ true → path_of text ≡ None → ⊥
path_found text h none = let x : Some text ≡ None = sym (path_of-is_path text h) ∙ none in absurd cc

-- as itself
pub path_is_text : (text path : List ℕ) → is_path text ≡ true → Some path ≡ path_of text → path ≡ text
path_is_text text path h some = same_Some path text (some ∙ path_of-is_path text h)

digit_is_digit : (number : ℕ) → is_digit (last_digit number) ≡ true
digit_is_digit number = and_from _ _ (le-leb 48 (last_digit number) (omega arith)) (le-leb (last_digit number) 57 (omega arith))

-- four digits are digits
pub four_are_digits : (number : ℕ) → list_all is_digit (four_digits number) ≡ true
four_are_digits number =
    and_from _ _ (digit_is_digit (number / 1000)) (and_from _ _ (digit_is_digit (number / 100)) (and_from _ _ (digit_is_digit (number / 10)) (and_from _ _ (digit_is_digit number) refl)))
