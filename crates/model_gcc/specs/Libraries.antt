-- Where libraries are looked for.
use Rattle.std.specs.Prelude.{ℕ, List, [], ◌∷◌, ◌++◌, codes, Option, Some, None}
use Rattle.thunk_codec.specs.Folder.{joined_from}

-- the file of a library
abbrev pub library_file : List ℕ → List ℕ
library_file name = codes "lib" ++ (name ++ codes ".a")

-- the folder in which libraries are looked for last
abbrev pub system_folder : List ℕ
system_folder = codes "sys/lib"

-- one path more, if there is one
abbrev pub and_path : Option (List ℕ) → List (List ℕ) → List (List ℕ)
and_path None paths = paths
and_path (Some path) paths = path ∷ paths

-- the paths of a file in some folders, in their order; a path that would be too long is none
abbrev pub seen_from : List (List ℕ) → List ℕ → List (List ℕ)
seen_from [] file = []
seen_from (folder ∷ folders) file = and_path (joined_from folder file) (seen_from folders file)

-- where a library is looked for: in the folders of `-L` in order, and then in `sys/lib`
abbrev pub library_places : List (List ℕ) → List ℕ → List (List ℕ)
library_places folders name = seen_from (folders ++ system_folder ∷ []) (library_file name)
