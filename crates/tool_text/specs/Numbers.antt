-- Numbers in arguments and in files.
use Rattle.std.specs.Prelude.{ℕ, List, [], ◌∷◌, ◌++◌, Option, decimal}
use Rattle.object_name.specs.Number.{number_of}
use Rattle.text_lines.specs.Maybe.{◌>>=◌}
use Rattle.text_lines.specs.Cuts.{before_feed}

-- a number and a line feed
abbrev pub number_line : ℕ → List ℕ
number_line n = decimal n ++ 10 ∷ []

-- the number below 2 ^ 64 that a file holds, followed by a line feed, if it holds one
abbrev pub number_in : List ℕ → Option ℕ
number_in bytes = do
  text ← before_feed bytes
  number_of text
