-- The digits at the beginning of a field.
use Rattle.std.proofs.Common.{◌≡◌, ℕ, ◌<◌, true, List, length, take, get_or, length-take, arith, ◌∙◌, ap}
use Rattle.std.specs.Prelude.{take_while}
use Rattle.std.specs.Char.{is_ascii_digit}
use Rattle.std.proofs.lemmas.List.{get_or-take}
use Rattle.std.proofs.lemmas.List.Folds.{length-prefix_len}
use Rattle.std.proofs.lemmas.List.Sums.{prefix_len_passes}

-- the digits at the beginning are digits
pub prefix_digits : (bytes : List ℕ) (n : ℕ) → n ≡ length (take_while is_ascii_digit bytes) → (i : ℕ) → i < length (take n bytes) → is_ascii_digit (get_or (take n bytes) i 0) ≡ true
prefix_digits bytes n is i below =
    let count = length-prefix_len is_ascii_digit bytes in
    let within : i < n = omega (arith, length-take n bytes) in
    ap is_ascii_digit (get_or-take n bytes i 0 within) ∙ prefix_len_passes is_ascii_digit bytes i 0 (omega (arith, count, is))
