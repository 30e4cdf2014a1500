-- Normal paths: a text cut at each `/`, without the components that are empty or `.`, each `..` taking away the one before it.
use Rattle.std.specs.Prelude.{ℕ, List, [], ◌∷◌, ◌==◌, ◌&&◌, ◌||◌, not, nat_le, Bool, false, Option, Some, None, length, reverse, bytes_eq, codes, slice_index, if◌then◌else◌}
use Rattle.std.specs.List.{list_all, join_with_byte, slice_split}
use Rattle.text_lines.specs.Maybe.{◌>>=◌, ◌>>◌, check}

-- the greatest length of a path, in bytes
abbrev pub max_path : ℕ
max_path = 1024

-- whether a byte is `/`
abbrev pub is_slash : ℕ → Bool
is_slash byte = byte == 47

-- the pieces before, between and after the slashes: one more than there are slashes
abbrev pub pieces_of : List ℕ → List (List ℕ)
pieces_of text = slice_split is_slash text

-- all but the last of some components, of which the last stands first
abbrev pub without_last : List (List ℕ) → Option (List (List ℕ))
without_last [] = None
without_last (last ∷ before) = Some before

-- the components, of which the last stands first, after one more piece
abbrev pub after_piece : List (List ℕ) → List ℕ → Option (List (List ℕ))
after_piece before piece =
    if bytes_eq piece [] || bytes_eq piece (codes ".") then Some before
    else if bytes_eq piece (codes "..") then without_last before
    else Some (piece ∷ before)

-- the same after several pieces
unfoldable pub after_pieces : List (List ℕ) → List (List ℕ) → Option (List (List ℕ))
after_pieces before [] = Some before
after_pieces before (piece ∷ pieces) = after_piece before piece >>= λ next. after_pieces next pieces

-- a byte that a path may have
abbrev pub is_printable : ℕ → Bool
is_printable byte = nat_le 32 byte && nat_le byte 126

-- the components of the normal form of a text, the last of them first
unfoldable pub components_of : List ℕ → Option (List (List ℕ))
components_of text = do
  check (not (is_slash (slice_index text 0)))
  check (list_all is_printable text)
  after_pieces [] (pieces_of text)

-- components, of which the last stands first, as a path
abbrev pub joined : List (List ℕ) → List ℕ
joined components = join_with_byte 47 (reverse components)

-- the normal path of a text, if there is one: it has a component at least, and at most 1,024 bytes
unfoldable pub path_of : List ℕ → Option (List ℕ)
path_of text = do
  components ← components_of text
  let path = joined components in do
    check (not (bytes_eq path []))
    check (nat_le (length path) max_path)
    Some path

-- the text is the path that it gives
abbrev pub is_same_path : List ℕ → Option (List ℕ) → Bool
is_same_path text None = false
is_same_path text (Some path) = bytes_eq path text

-- whether the text is a canonical path: its own normal path
unfoldable pub is_path : List ℕ → Bool
is_path text = is_same_path text (path_of text)
