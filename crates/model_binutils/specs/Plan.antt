-- What a command line of ar, ranlib, strip, cp, mv or rm asks for, or the first refusal of a word. Words are counted from 0, which is the
-- command's own.
use Rattle.std.specs.Prelude.{ℕ, List, [], ◌∷◌, ◌==◌, ◌||◌, not, nat_le, bytes_eq, Bool, true, false, Option, Some, None, Result, Ok, Err, length, codes, drop, if◌then◌else◌}
use Rattle.std.specs.List.{list_all, list_any}
use Rattle.file_tree.specs.Planning.{◌>>=◌, ◌>>◌, refuse_if, place_after}
use Rattle.file_tree.specs.declared.model_fault.Reason.TheVariants.{Unknown, NoValue, Same, TooMany}
use Rattle.file_tree.specs.declared.model_fault.PlanFault.{PlanFault}
use Rattle.file_tree.specs.declared.model_fault.PlanFault.TheVariants.{Refused}
use Rattle.model_binutils.specs.declared.bin_plan.BinPlan.{BinPlan}
use Rattle.model_binutils.specs.declared.bin_plan.BinPlan.TheVariants.{Ar, Ranlib, Strip, Copy, Move, Remove, Nothing}
use Rattle.model_binutils.specs.declared.command.Command.{Command}
use Rattle.model_binutils.specs.declared.command.Command.TheVariants as commands
use Rattle.model_binutils.specs.declared.operand.Operand.TheVariants.{File, Member}
use Rattle.model_binutils.specs.Words.{is_option, first_path, one_path, no_word, operands_from}

-- a plan, or a refusal
abbrev pub Planning : Type 0
Planning = Result BinPlan PlanFault

-- ---- ar

-- the letters of a word, which may stand behind a `-`
abbrev pub letters_of : List ℕ → List ℕ
letters_of word = if is_option word then drop 1 word else word

-- `r`, `s`, `c`, `D` or `v`
abbrev pub is_letter : ℕ → Bool
is_letter byte = (byte == 114) || (byte == 115) || (byte == 99) || (byte == 68) || (byte == 118)

-- whether members are to be put in, and whether there is to be a table of symbols
abbrev pub has_replace : List ℕ → Bool
has_replace letters = list_any (λ letter. letter == 114) letters

abbrev pub has_table : List ℕ → Bool
has_table letters = list_any (λ letter. letter == 115) letters

-- letters that ask for something: no others, and `r` or `s` among them
unfoldable pub are_letters : List ℕ → Bool
are_letters letters = if list_all is_letter letters then has_replace letters || has_table letters else false

-- the archive, and one member or more
unfoldable pub insertion_plan : Bool → List (List ℕ) → Planning
insertion_plan table words = do
  archive ← first_path 2 words
  members ← operands_from Member 3 (drop 1 words)
  Ok (Ar true table archive members)

-- the archive alone, for a table of symbols
abbrev pub table_plan : List (List ℕ) → Planning
table_plan words = one_path 2 words >>= λ archive. Ok (Ar false true archive [])

-- with `r` members are put in
abbrev pub archive_plan : List ℕ → List (List ℕ) → Planning
archive_plan letters words = if has_replace letters then insertion_plan (has_table letters) words else table_plan words

-- the letters, and what follows
unfoldable pub ar_plan : List (List ℕ) → Planning
ar_plan [] = Err (Refused 1 NoValue)
ar_plan (word ∷ words) = do
  refuse_if (not (are_letters (letters_of word))) 1 Unknown
  archive_plan (letters_of word) words

-- ---- ranlib

-- the archive, after `-D` or not
abbrev pub ranlib_path : List (List ℕ) → Result (List ℕ) PlanFault
ranlib_path [] = one_path 1 []
ranlib_path (word ∷ words) = if bytes_eq word (codes "-D") then one_path 2 words else one_path 1 (word ∷ words)

abbrev pub ranlib_plan : List (List ℕ) → Planning
ranlib_plan words = ranlib_path words >>= λ path. Ok (Ranlib path)

-- ---- strip

-- `-s` and `-g` are left as they are
abbrev pub is_strip_option : List ℕ → Bool
is_strip_option word = bytes_eq word (codes "-s") || bytes_eq word (codes "-g")

-- behind `-o`: what is made, and one file
unfoldable pub strip_into : ℕ → List (List ℕ) → Planning
strip_into at words = do
  output ← first_path at words
  path ← one_path (place_after at) (drop 1 words)
  Ok (Strip (Some output) (path ∷ []))

-- one file or more, each in its place
abbrev pub strip_in_place : ℕ → List (List ℕ) → Planning
strip_in_place at words = operands_from File at words >>= λ paths. Ok (Strip None paths)

-- `-s` and `-g`, any of them; then `-o` and what belongs to it, or the files
unfoldable pub strip_plan : ℕ → List (List ℕ) → Planning
strip_plan at [] = strip_in_place at []
strip_plan at (word ∷ words) =
    if is_strip_option word then strip_plan (place_after at) words
    else if bytes_eq word (codes "-o") then strip_into (place_after at) words
    else strip_in_place at (word ∷ words)

-- ---- cp, mv and rm

-- two paths that differ, and no other word
unfoldable pub two_paths : List (List ℕ) → Result (List ℕ × List ℕ) PlanFault
two_paths words = do
  from ← first_path 1 words
  to ← first_path 2 (drop 1 words)
  refuse_if (bytes_eq from to) 2 Same
  no_word 3 (drop 1 (drop 1 words))
  Ok (from, to)

abbrev pub copy_plan : List (List ℕ) → Planning
copy_plan words = two_paths words >>= λ paths. Ok (Copy paths.0 paths.1)

abbrev pub move_plan : List (List ℕ) → Planning
move_plan words = two_paths words >>= λ paths. Ok (Move paths.0 paths.1)

-- `-f`, and one file or more
unfoldable pub remove_plan : List (List ℕ) → Planning
remove_plan [] = Err (Refused 1 NoValue)
remove_plan (word ∷ words) = do
  refuse_if (not (bytes_eq word (codes "-f"))) 1 Unknown
  paths ← operands_from File 2 words
  Ok (Remove paths)

-- ---- all of them

-- a command without effect
abbrev pub is_idle : List ℕ → Bool
is_idle word = bytes_eq word (codes "echo") || bytes_eq word (codes "true") || bytes_eq word (codes ":") || bytes_eq word (codes "mkdir")

-- a command by its first word
unfoldable pub command_of : List ℕ → Option Command
command_of word =
    if bytes_eq word (codes "ar") then Some commands.Ar
    else if bytes_eq word (codes "ranlib") then Some commands.Ranlib
    else if bytes_eq word (codes "strip") then Some commands.Strip
    else if bytes_eq word (codes "cp") then Some commands.Copy
    else if bytes_eq word (codes "mv") then Some commands.Move
    else if bytes_eq word (codes "rm") then Some commands.Remove
    else if is_idle word then Some commands.Nothing
    else None

-- the plan of the words after the first: `echo`, `true`, `:` and `mkdir` take any, and have no effect
abbrev pub plan_by : Option Command → List (List ℕ) → Planning
plan_by None words = Err (Refused 0 Unknown)
plan_by (Some commands.Ar) words = ar_plan words
plan_by (Some commands.Ranlib) words = ranlib_plan words
plan_by (Some commands.Strip) words = strip_plan 1 words
plan_by (Some commands.Copy) words = copy_plan words
plan_by (Some commands.Move) words = move_plan words
plan_by (Some commands.Remove) words = remove_plan words
plan_by (Some commands.Nothing) words = Ok Nothing

-- the most files of a command, and the most members: with the old archive they are the inputs of one thunk
abbrev pub max_files : ℕ
max_files = 4096

abbrev pub max_members : ℕ
max_members = 4095

-- whether there aren't too many files
abbrev pub is_within : BinPlan → Bool
is_within (Ar replace table archive members) = nat_le (length members) max_members
is_within (Ranlib archive) = true
is_within (Strip output files) = nat_le (length files) max_files
is_within (Copy from to) = true
is_within (Move from to) = true
is_within (Remove paths) = nat_le (length paths) max_files
is_within Nothing = true

-- a plan, unless it has too many files
unfoldable pub limited : BinPlan → Planning
limited plan = do
  refuse_if (not (is_within plan)) 0 TooMany
  Ok plan

-- the plan of a command's words, of which the first is its own; where there is none at all, it is missing
unfoldable pub plan_of : List (List ℕ) → Planning
plan_of [] = Err (Refused 0 NoValue)
plan_of (word ∷ words) = plan_by (command_of word) words >>= λ plan. limited plan
