-- Where an included file is looked for.
use Rattle.std.specs.Prelude.{ℕ, List, [], ◌∷◌, ◌++◌, Option, Some, None, map, codes, if◌then◌else◌}
use Rattle.std.specs.Option.{is_some}
use Rattle.thunk_codec.specs.Files.{Files}
use Rattle.thunk_codec.specs.Folder.{parent_of, joined_from}
use Rattle.tool_text.specs.Directive.{Target, Quoted, Angled}

-- the folders in which a file is looked for, as asked for by a file in the first: quoted from that folder on, angled without it
abbrev pub folders_for : List (List ℕ) → List ℕ → Target → List (List ℕ)
folders_for folders path (Quoted file) = parent_of path ∷ (folders ++ codes "sys/include" ∷ [])
folders_for folders path (Angled file) = folders ++ codes "sys/include" ∷ []

-- the text between the quotes or brackets
abbrev pub asked_file : Target → List ℕ
asked_file (Quoted file) = file
asked_file (Angled file) = file

-- the candidates for an included file, in the order in which they are looked at: None where the text is no path from that folder
unfoldable pub candidates : List (List ℕ) → List ℕ → Target → List (Option (List ℕ))
candidates folders path target = map (λ folder. joined_from folder (asked_file target)) (folders_for folders path target)

-- the first candidate that is a path where a file is
abbrev pub first_there : Files → List (Option (List ℕ)) → Option (List ℕ)
first_there files [] = None
first_there files (None ∷ others) = first_there files others
first_there files (Some path ∷ others) = if is_some (files path) then Some path else first_there files others
