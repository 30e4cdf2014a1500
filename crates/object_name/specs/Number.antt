-- Canonical decimal numbers: `0`, or digits that don't begin with `0`.
use Rattle.std.specs.Prelude.{ℕ, ◌+◌, ◌-◌, ◌*◌, ◌^◌, List, fold, nat_lt, ◌&&◌, Option, Some, None, decimal, bytes_eq, if◌then◌else◌}

-- the value of a run of digits, the first of them the highest
abbrev pub digits_value : List ℕ → ℕ
digits_value digits = fold (λ value digit. value * 10 + (digit - 48)) 0 digits

-- the number below 2 ^ 64 whose canonical text this is, if there is one
unfoldable pub number_of : List ℕ → Option ℕ
number_of text = let n = digits_value text in if nat_lt n (2 ^ 64) && bytes_eq (decimal n) text then Some n else None
