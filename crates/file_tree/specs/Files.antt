-- A tree of files: a map from normal paths to bytes.
use Rattle.std.specs.Prelude.{◌≡◌, ◌⊎◌, ◌≤◌, ℕ, List, [], ◌∷◌, ◌++◌, length, nat_le, bytes_eq, Option, Some, None, if◌then◌else◌}
use Rattle.object_name.specs.Made.{ListsMade}
use Rattle.object_name.specs.Name.{max_size}
use Rattle.object_name.specs.Streams.{IsPrefix}
pub use Rattle.thunk_codec.specs.Files.{Files}
use Rattle.file_tree.specs.declared.change.Change.{Change}
use Rattle.file_tree.specs.declared.change.Change.TheVariants.{Written, Removed}
use Rattle.file_tree.specs.declared.tree.FileRead.{FileRead}
use Rattle.file_tree.specs.declared.tree.FileRead.TheVariants.{Absent, Bytes, TooLong}

-- the map with no files
abbrev pub no_files : Files
no_files = λ _. None

-- the map with these bytes at a path, in place of what was there
abbrev pub put_file : Files → List ℕ → List ℕ → Files
put_file files path bytes = λ other. if bytes_eq other path then Some bytes else files other

-- the map with nothing at a path
abbrev pub without_file : Files → List ℕ → Files
without_file files path = λ other. if bytes_eq other path then None else files other

-- the tree after one change
abbrev pub after_change : Files → Change → Files
after_change files (Written path bytes) = put_file files path bytes
after_change files (Removed path) = without_file files path

-- the tree after some changes, the first of them first
abbrev pub changed : Files → List Change → Files
changed files [] = files
changed files (change ∷ changes) = changed (after_change files change) changes

-- what a tree tells: its files, and the changes that were answered Ok, the first of them first
pub record Filed : Type 0 where
  pub files : Files
  pub changes : List Change

-- what this tree tells
abbrev pub filed_in : {T : Type 0} → (T → Files) → (T → List Change) → T → Filed
filed_in files changes tree = record { files = files tree; changes = changes tree }

-- after these changes, each of which was answered Ok, once and in order
abbrev pub all_changed : Filed → List Change → Filed
all_changed before changes = record { files = changed before.files changes; changes = before.changes ++ changes }

-- a prefix of these changes was made, each once and in order: the last of them may have failed
pub record ChangesPrefix (changes : List Change) (before after : Filed) : Type 0 where
  pub prefix : List Change
  pub is_prefix : IsPrefix prefix changes
  pub files : after.files ≡ changed before.files prefix
  pub listed : ListsMade before.changes prefix after.changes

-- a change that failed was made or was not
abbrev pub MayChange : Files → Change → Files → Type 0
MayChange old change new = (new ≡ old) ⊎ (new ≡ after_change old change)

-- what reading gives: nothing where there is no file, and the bytes of a file of 16,777,216 bytes at most
abbrev pub file_read : Option (List ℕ) → FileRead
file_read None = Absent
file_read (Some bytes) = if nat_le (length bytes) max_size then Bytes bytes else TooLong

-- bytes that were read are no more than an object may have
abbrev pub IsShort : FileRead → Type 0
IsShort Absent = Unit {0}
IsShort (Bytes bytes) = length bytes ≤ max_size
IsShort TooLong = Unit {0}
