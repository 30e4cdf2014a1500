-- Words of a command, each at its place, or the first that is refused.
use Rattle.std.specs.Prelude.{ℕ, List, [], ◌∷◌, ◌++◌, not, nat_eq, Bool, Option, Some, None, Result, Ok, Err, codes, drop}
use Rattle.std.specs.List.{starts_with}
use Rattle.file_tree.specs.Planning.{◌>>=◌, ◌>>◌, refuse_if, place_after}
use Rattle.file_tree.specs.declared.model_fault.Reason.TheVariants.{Unknown, NoValue, BadValue}
use Rattle.file_tree.specs.declared.model_fault.PlanFault.{PlanFault}
use Rattle.file_tree.specs.declared.model_fault.PlanFault.TheVariants.{Refused}
use Rattle.thunk_codec.specs.Folder.{last_of}
use Rattle.thunk_codec.specs.Path.{path_of}
use Rattle.model_binutils.specs.declared.operand.Operand.{Operand}
use Rattle.model_binutils.specs.declared.operand.Operand.TheVariants.{File, Member}
use Rattle.tool_bin.specs.Archive.{is_member_name}

-- whether a word is an option
abbrev pub is_option : List ℕ → Bool
is_option word = starts_with nat_eq word (codes "-")

-- what a word is, unless it is a bad value
abbrev pub valid : {A : Type 0} → ℕ → Option A → Result A PlanFault
valid at None = Err (Refused at BadValue)
valid at (Some value) = Ok value

-- a word where a path is wanted: an option doesn't fit
unfoldable pub path_at : ℕ → List ℕ → Result (List ℕ) PlanFault
path_at at word = do
  refuse_if (is_option word) at Unknown
  valid at (path_of word)

-- a word where an operand is wanted: a path, and of a member of an archive one whose last component can be its name
abbrev pub operand_at : Operand → ℕ → List ℕ → Result (List ℕ) PlanFault
operand_at File at word = path_at at word
operand_at Member at word = do
  path ← path_at at word
  refuse_if (not (is_member_name (last_of path))) at BadValue
  Ok path

-- the first of some words, which is to be a path
abbrev pub first_path : ℕ → List (List ℕ) → Result (List ℕ) PlanFault
first_path at [] = Err (Refused at NoValue)
first_path at (word ∷ words) = path_at at word

-- no word is left
abbrev pub no_word : ℕ → List (List ℕ) → Option PlanFault
no_word at [] = None
no_word at (word ∷ words) = Some (Refused at Unknown)

-- one word, a path, and no other
unfoldable pub one_path : ℕ → List (List ℕ) → Result (List ℕ) PlanFault
one_path at words = do
  path ← first_path at words
  no_word (place_after at) (drop 1 words)
  Ok path

-- operands, behind those before them
abbrev pub operands_after : Operand → List (List ℕ) → ℕ → List (List ℕ) → Result (List (List ℕ)) PlanFault
operands_after wanted paths at [] = Ok paths
operands_after wanted paths at (word ∷ words) = do
  path ← operand_at wanted at word
  operands_after wanted (paths ++ path ∷ []) (place_after at) words

-- one operand or more, from a place on
abbrev pub operands_from : Operand → ℕ → List (List ℕ) → Result (List (List ℕ)) PlanFault
operands_from wanted at [] = Err (Refused at NoValue)
operands_from wanted at (word ∷ words) = operands_after wanted [] at (word ∷ words)
