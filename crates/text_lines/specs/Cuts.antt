-- Texts cut at a prefix, at a byte, or before a line feed at the end.
use Rattle.std.specs.Prelude.{ℕ, List, [], ◌∷◌, ◌-◌, length, take, drop, nat_eq, ◌==◌, not, Bool, Option, Some, None, if◌then◌else◌}
use Rattle.std.specs.List.{list_all, starts_with, ends_with}
use Rattle.text_lines.specs.Maybe.{◌>>=◌, ◌>>◌, check}

-- what comes after a prefix
abbrev pub strip_prefix : List ℕ → List ℕ → Option (List ℕ)
strip_prefix prefix text = do
  check (starts_with nat_eq text prefix)
  Some (drop (length prefix) text)

-- what comes before a line feed at the end
abbrev pub before_feed : List ℕ → Option (List ℕ)
before_feed text = do
  check (ends_with nat_eq text (10 ∷ []))
  Some (take (length text - 1) text)

-- whether no byte of a text is this one
abbrev pub has_no : ℕ → List ℕ → Bool
has_no stop text = list_all (λ byte. not (byte == stop)) text

-- one byte more at the beginning of the first part
abbrev pub with_byte : ℕ → List ℕ × List ℕ → List ℕ × List ℕ
with_byte byte cut = (byte ∷ cut.0, cut.1)

-- the bytes before the first stop byte, and those after it
unfoldable pub split_at_byte : ℕ → List ℕ → Option (List ℕ × List ℕ)
split_at_byte stop [] = None
split_at_byte stop (byte ∷ text) =
    if byte == stop then Some ([], text) else (split_at_byte stop text >>= λ cut. Some (with_byte byte cut))
