-- Numbers within a range, by their words.
use Rattle.std.specs.Prelude.{ℕ, List, nat_le, Option, Some}
use Rattle.object_name.specs.Number.{number_of}
use Rattle.text_lines.specs.Maybe.{◌>>=◌, ◌>>◌, check}

-- the number that a word is in canonical decimal form, if it is one from the least to the most
abbrev pub number_within : ℕ → ℕ → List ℕ → Option ℕ
number_within least most word = do
  number ← number_of word
  check (nat_le least number)
  check (nat_le number most)
  Some number
