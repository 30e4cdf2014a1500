-- What stands behind the options of gcc, and what its operands are.
use Rattle.std.specs.Prelude.{ℕ, List, [], ◌∷◌, ◌++◌, ◌==◌, ◌&&◌, not, nat_eq, nat_le, bytes_eq, Bool, Option, Some, None, length, codes, if◌then◌else◌}
use Rattle.std.specs.List.{list_all, ends_with}
use Rattle.text_lines.specs.Cuts.{split_at_byte}
use Rattle.text_lines.specs.Maybe.{◌>>◌, check}
use Rattle.thunk_codec.specs.Thunk.{is_identifier, has_no_zero}
use Rattle.model_gcc.specs.declared.gcc_plan.Operand.{Operand}
use Rattle.model_gcc.specs.declared.gcc_plan.Operand.TheVariants.{Source, Preprocessed, Assembly, AssemblySource, Other}

-- what comes after the first, if there is one
abbrev pub after_first : {A : Type 0} → List A → List A
after_first [] = []
after_first (first ∷ others) = others

-- what comes after an option of two bytes
unfoldable pub after_option : List ℕ → List ℕ
after_option word = after_first (after_first word)

-- the greatest length of a library's name
abbrev pub max_library_name : ℕ
max_library_name = 1000

-- a printable byte but for the space and `/`
abbrev pub is_library_byte : ℕ → Bool
is_library_byte byte = nat_le 33 byte && nat_le byte 126 && not (byte == 47)

-- the name of a library
unfoldable pub library_name_of : List ℕ → Option (List ℕ)
library_name_of name = do
  check (not (bytes_eq name []))
  check (nat_le (length name) max_library_name)
  check (list_all is_library_byte name)
  Some name

-- the name of a macro
unfoldable pub macro_name_of : List ℕ → Option (List ℕ)
macro_name_of name = do
  check (is_identifier name)
  Some name

-- a macro and its text, which is 1 where none is given
abbrev pub definition_by : List ℕ → Option (List ℕ × List ℕ) → Option (List ℕ)
definition_by value None = do
  check (is_identifier value)
  Some (value ++ codes "=1")
definition_by value (Some cut) = do
  check (is_identifier cut.0)
  check (has_no_zero cut.1)
  Some value

-- the definition of a macro: `NAME=TEXT`, where `NAME` alone is `NAME=1`
unfoldable pub definition_of : List ℕ → Option (List ℕ)
definition_of value = definition_by value (split_at_byte 61 value)

-- a word that is passed on
unfoldable pub passed_word_of : List ℕ → Option (List ℕ)
passed_word_of word = do
  check (has_no_zero word)
  Some word

-- whether a text ends so
abbrev pub ends : List ℕ → List ℕ → Bool
ends text suffix = ends_with nat_eq text suffix

-- the file at a path, by its suffix
unfoldable pub operand_at : List ℕ → Operand
operand_at path =
    if ends path (codes ".c") then Source path
    else if ends path (codes ".i") then Preprocessed path
    else if ends path (codes ".s") then Assembly path
    else if ends path (codes ".S") then AssemblySource path
    else Other path
