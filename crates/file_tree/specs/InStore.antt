-- What of a folder's files is the store's, and no part of its tree: what stands in the folder `.gg`.
use Rattle.std.specs.Prelude.{ℕ, List, Bool, bytes_eq, codes}
use Rattle.std.specs.List.{before_first}
use Rattle.thunk_codec.specs.Path.{is_slash}

-- whether a normal path leads into the store: its first component is the store's folder
abbrev pub is_in_store : List ℕ → Bool
is_in_store path = bytes_eq (before_first is_slash path) (codes ".gg")
