-- What is looked at once all words of gcc are read.
use Rattle.std.specs.Prelude.{ℕ, ◌+◌, List, [], ◌∷◌, ◌==◌, ◌&&◌, not, nat_le, Bool, true, false, Option, Some, None, is_some, length, if◌then◌else◌}
use Rattle.std.specs.List.{list_any}
use Rattle.text_lines.specs.Maybe.{◌>>◌, check}
use Rattle.model_gcc.specs.declared.gcc_plan.Stop.{Stop}
use Rattle.model_gcc.specs.declared.gcc_plan.Stop.TheVariants.{Preprocess, Compile, Assemble, Link}
use Rattle.model_gcc.specs.declared.gcc_plan.Operand.{Operand}
use Rattle.model_gcc.specs.declared.gcc_plan.Operand.TheVariants.{Source, Preprocessed, Assembly, AssemblySource, Other, Library}
use Rattle.model_gcc.specs.declared.slots.Slots.{Slots}
use Rattle.model_gcc.specs.Slots.{stages_to}

-- the most operands
abbrev pub max_operands : ℕ
max_operands = 4096

-- the most bytes of all words together
abbrev pub max_bytes : ℕ
max_bytes = 1048576

-- an operand that is a file
abbrev pub is_file : Operand → Bool
is_file (Source path) = true
is_file (Preprocessed path) = true
is_file (Assembly path) = true
is_file (AssemblySource path) = true
is_file (Other path) = true
is_file (Library name) = false

-- whether some operands have a file
abbrev pub has_file : List Operand → Bool
has_file operands = list_any is_file operands

-- whether they have more than one
abbrev pub has_several_files : List Operand → Bool
has_several_files [] = false
has_several_files (operand ∷ others) = if is_file operand then has_file others else has_several_files others

-- whether preprocessing alone is asked for, without a file for what is made
unfoldable pub needs_output : Stop → Option (List ℕ) → Bool
needs_output stop output = if is_some output then false else stages_to stop == 1

-- the place of a `-o` that several files would share, where there is a stop
unfoldable pub shared_output : Slots → Option ℕ
shared_output given = do
  check (is_some given.stop)
  check (has_several_files given.operands)
  given.output_at

-- the kinds of files that preprocessing alone has work for: `.c` and `.S`
abbrev pub is_preprocessed : Operand → Bool
is_preprocessed (Source path) = true
is_preprocessed (Preprocessed path) = false
is_preprocessed (Assembly path) = false
is_preprocessed (AssemblySource path) = true
is_preprocessed (Other path) = false
is_preprocessed (Library name) = false

-- the kinds that are compiled: `.c` and `.i`
abbrev pub is_compiled : Operand → Bool
is_compiled (Source path) = true
is_compiled (Preprocessed path) = true
is_compiled (Assembly path) = false
is_compiled (AssemblySource path) = false
is_compiled (Other path) = false
is_compiled (Library name) = false

-- the kinds that are assembled: `.c`, `.i`, `.s` and `.S`
abbrev pub is_assembled : Operand → Bool
is_assembled (Source path) = true
is_assembled (Preprocessed path) = true
is_assembled (Assembly path) = true
is_assembled (AssemblySource path) = true
is_assembled (Other path) = false
is_assembled (Library name) = false

-- whether the stages up to a stop have work for a file; a link has for all
abbrev pub has_work : Stop → Operand → Bool
has_work Preprocess operand = is_preprocessed operand
has_work Compile operand = is_compiled operand
has_work Assemble operand = is_assembled operand
has_work Link operand = true

-- the place of the first file that they have none for
abbrev pub first_unfit : Stop → List Operand → List ℕ → Option ℕ
first_unfit stop [] places = None
first_unfit stop (operand ∷ operands) [] = None
first_unfit stop (operand ∷ operands) (place ∷ places) =
    if is_file operand && not (has_work stop operand) then Some place else first_unfit stop operands places

-- the bytes of some words together
abbrev pub total_length : List (List ℕ) → ℕ
total_length [] = 0
total_length (word ∷ words) = length word + total_length words

-- whether there aren't too many operands, nor too many bytes of words
unfoldable pub is_within : List (List ℕ) → List Operand → Bool
is_within words operands = nat_le (length operands) max_operands && nat_le (total_length words) max_bytes
