-- Folders: normal paths that may have no component, and are then spelled `.`.
use Rattle.std.specs.Prelude.{ℕ, List, [], ◌∷◌, ◌++◌, nat_le, not, Bool, Option, Some, None, length, reverse, drop, codes, slice_index, unwrap_or}
use Rattle.std.specs.List.{last_or}
use Rattle.text_lines.specs.Maybe.{◌>>=◌, ◌>>◌, check}
use Rattle.thunk_codec.specs.Path.{max_path, is_slash, pieces_of, components_of, joined, path_of, is_same_path}

-- how a folder is spelled whose components are joined to these bytes
abbrev pub folder_text : List ℕ → List ℕ
folder_text [] = codes "."
folder_text (byte ∷ path) = byte ∷ path

-- the folder of a text, if there is one: it has at most 1,024 bytes
unfoldable pub folder_of : List ℕ → Option (List ℕ)
folder_of text = do
  components ← components_of text
  let path = joined components in do
    check (nat_le (length path) max_path)
    Some (folder_text path)

-- whether the text is a canonical folder: the folder that it gives
unfoldable pub is_folder : List ℕ → Bool
is_folder text = is_same_path text (folder_of text)

-- the folder of all but the last component of a normal path
unfoldable pub parent_of : List ℕ → List ℕ
parent_of path = folder_text (joined (drop 1 (reverse (pieces_of path))))

-- the last component of a normal path
unfoldable pub last_of : List ℕ → List ℕ
last_of path = unwrap_or (last_or None (pieces_of path)) []

-- the normal path of a text that is seen from a folder, if there is one
unfoldable pub joined_from : List ℕ → List ℕ → Option (List ℕ)
joined_from folder text = do
  check (not (is_slash (slice_index text 0)))
  path_of (folder ++ 47 ∷ text)
