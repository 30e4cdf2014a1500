-- Files that are written beside others, which they then replace: where they stand.
use Rattle.std.specs.Prelude.{ℕ, List, ◌∷◌, ◌++◌, decimal}

-- the path of what stands in a folder
abbrev pub path_in : List ℕ → List ℕ → List ℕ
path_in folder inside = folder ++ 47 ∷ inside

-- the name of a file that a process writes beside others, by how many it named before: `·PROCESS.COUNT` in UTF-8
abbrev pub name_beside : ℕ → ℕ → List ℕ
name_beside process count = 194 ∷ 183 ∷ decimal process ++ 46 ∷ decimal count
