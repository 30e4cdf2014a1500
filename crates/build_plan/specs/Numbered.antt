-- Numbers of four digits, by which the inputs of a job are named.
use Rattle.std.specs.Prelude.{ℕ, ◌+◌, ◌/◌, ◌%◌, List, [], ◌∷◌}

-- the last decimal digit of a number
abbrev pub last_digit : ℕ → ℕ
last_digit number = 48 + number % 10

-- `0000`, `0001` and so on: the last four digits of a number
abbrev pub four_digits : ℕ → List ℕ
four_digits number = last_digit (number / 1000) ∷ last_digit (number / 100) ∷ last_digit (number / 10) ∷ last_digit number ∷ []
