-- Where the first member of each name stands.
use Rattle.std.specs.Prelude.{◌≡◌, ℕ, ◌+◌, List, [], ◌∷◌, Option, Some, None, if◌then◌else◌}
use Rattle.tool_bin.specs.Archive.{ArchiveMember}
use Rattle.tool_bin.specs.Ar.{is_named}

-- the index of the first of some members with this name, where they are counted from a number
abbrev pub index_from : ℕ → List ℕ → List ArchiveMember → Option ℕ
index_from k name [] = None
index_from k name (member ∷ members) = if is_named name member then Some k else index_from (k + 1) name members

-- a look-up by name finds the index of the first member of each name
pub record FindsFirst (find : List ℕ → Option ℕ) (members : List ArchiveMember) : Type 0 where
  pub at : (name : List ℕ) → find name ≡ index_from 0 name members
