-- A tree in memory: its finite map, the calls on it and the changes that were made.
use Rattle.std.specs.Prelude.{◌≡◌, ℕ, List, [], ◌∷◌, ◌++◌, Option, Some, None, refl}
use Rattle.std.specs.Cmp.Lexicographic.{slice_cmp}
use Rattle.std.specs.Coded.{Coded, code_by, coded×, coded_list, coded_option, coded_ℕ}
use Rattle.std.specs.FinMap as map
use Rattle.std.specs.Ordering.{nat_cmp}
use Rattle.std.specs.declared.cmp.Ordering.{Ordering}
use Rattle.object_name.specs.Calls.{CallList, after_call, calls_code}
use Rattle.file_tree.specs.Files.{Files}
use Rattle.file_tree.specs.declared.change.Change.{Change}
use Rattle.file_tree.specs.declared.change.Change.TheVariants.{Written, Removed}

-- the order of paths
abbrev pub path_cmp : List ℕ → List ℕ → Ordering
path_cmp = slice_cmp nat_cmp

-- some bytes by their paths
abbrev pub ByPath : Type 0
ByPath = map.FinMap path_cmp (List ℕ)

-- what a tree in memory holds, the calls on it so far, and the changes that were made, the first of them first
pub record Memory : Type 0 where
  pub held : ByPath
  pub calls : CallList
  pub changes : List Change

-- the files that it tells
abbrev pub files_of : Memory → Files
files_of memory = λ path. map.get memory.held path

-- after a call that changed nothing
abbrev pub called : Memory → Memory
called memory = record { held = memory.held; calls = after_call memory.calls; changes = memory.changes }

-- after a file was written
abbrev pub with_file : Memory → List ℕ → List ℕ → Memory
with_file memory path bytes = record {
  held = map.insert memory.held path bytes;
  calls = after_call memory.calls;
  changes = memory.changes ++ Written path bytes ∷ [];
}

-- after a file was removed
abbrev pub with_none : Memory → List ℕ → Memory
with_none memory path = record {
  held = map.remove memory.held path;
  calls = after_call memory.calls;
  changes = memory.changes ++ Removed path ∷ [];
}

-- how the files are stored
abbrev pub by_path_code : Coded ByPath
by_path_code = map.code (coded_list coded_ℕ) (coded_list coded_ℕ)

-- a change by its path and the bytes that it gets, or none
abbrev change_by : List ℕ × Option (List ℕ) → Change
change_by (path, Some bytes) = Written path bytes
change_by (path, None) = Removed path

-- a change as its path and the bytes that it gets, or none
abbrev change_parts : Change → List ℕ × Option (List ℕ)
change_parts (Written path bytes) = (path, Some bytes)
change_parts (Removed path) = (path, None)

-- the parts of a change make it
abbrev same_change : (change : Change) → change_by (change_parts change) ≡ change
same_change (Written path bytes) = refl
same_change (Removed path) = refl

-- how a change is stored
abbrev pub change_code : Coded Change
change_code = code_by (List ℕ × Option (List ℕ)) (coded× (coded_list coded_ℕ) (coded_option (coded_list coded_ℕ))) change_parts change_by same_change

-- how a tree in memory is stored
abbrev pub memory_code : Coded Memory
memory_code =
    code_by (ByPath × (CallList × List Change)) (coded× by_path_code (coded× calls_code (coded_list change_code)))
    (λ m. (m.held, (m.calls, m.changes))) (λ p. record { held = p.0; calls = p.1.0; changes = p.1.1 }) (λ _. refl)
