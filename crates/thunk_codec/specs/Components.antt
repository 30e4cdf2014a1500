-- The components of normal paths.
use Rattle.std.specs.Prelude.{ℕ, List, [], ◌∷◌, ◌++◌, ◌&&◌, not, Bool, bytes_eq, codes}
use Rattle.std.specs.List.{list_all}
use Rattle.thunk_codec.specs.Path.{is_slash, is_printable}

-- a byte that a component may have
abbrev pub is_plain_byte : ℕ → Bool
is_plain_byte byte = is_printable byte && not (is_slash byte)

-- bytes that a component may have
abbrev pub is_plain : List ℕ → Bool
is_plain piece = list_all is_plain_byte piece

-- a component of a normal path
abbrev pub is_component : List ℕ → Bool
is_component piece = not (bytes_eq piece []) && (not (bytes_eq piece (codes ".")) && (not (bytes_eq piece (codes "..")) && is_plain piece))

-- a path with one more component
abbrev pub with_component : List ℕ → List ℕ → List ℕ
with_component [] component = component
with_component (byte ∷ path) component = (byte ∷ path) ++ 47 ∷ component
