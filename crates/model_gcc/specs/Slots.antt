-- What the words of gcc say, one after another, or the first of them that is refused.
use Rattle.std.specs.Prelude.{ℕ, ◌==◌, List, [], ◌∷◌, ◌++◌, bytes_eq, Option, Some, None, Result, Ok, Err, codes, if◌then◌else◌}
use Rattle.file_tree.specs.Planning.{◌>>=◌, place_after}
use Rattle.thunk_codec.specs.Path.{path_of}
use Rattle.thunk_codec.specs.Folder.{folder_of}
use Rattle.file_tree.specs.declared.model_fault.Reason.{Reason}
use Rattle.file_tree.specs.declared.model_fault.Reason.TheVariants.{Unknown, BadValue, TwoStages}
use Rattle.file_tree.specs.declared.model_fault.PlanFault.{PlanFault}
use Rattle.file_tree.specs.declared.model_fault.PlanFault.TheVariants.{Refused}
use Rattle.model_gcc.specs.declared.gcc_plan.Stop.{Stop}
use Rattle.model_gcc.specs.declared.gcc_plan.Stop.TheVariants.{Preprocess, Compile, Assemble, Link}
use Rattle.model_gcc.specs.declared.gcc_plan.Operand.{Operand}
use Rattle.model_gcc.specs.declared.gcc_plan.Operand.TheVariants.{Library}
use Rattle.model_gcc.specs.declared.slots.Slots.{Slots}
use Rattle.model_gcc.specs.declared.word_class.Key.{Key}
use Rattle.model_gcc.specs.declared.word_class.Key.TheVariants.{Output, IncludeFolder, Define, Undefine, LibraryFolder, LibraryName}
use Rattle.model_gcc.specs.declared.word_class.WordClass.{WordClass}
use Rattle.model_gcc.specs.declared.word_class.WordClass.TheVariants.{StopAt, OutputOption, ValueOption, PassedOn, Unmodelled, File}
use Rattle.model_gcc.specs.WordClass.{class_of}
use Rattle.model_gcc.specs.Values.{after_option, library_name_of, macro_name_of, definition_of, passed_word_of, operand_at}

-- what is given so far, or a refusal
abbrev pub Reading : Type 0
Reading = Result Slots PlanFault

-- only the command's own word, at place 0, is read
abbrev pub no_words : Slots
no_words = record {
  at = 0;
  waiting = None;
  stop = None;
  output_at = None;
  output = None;
  cpp_words = [];
  cc_words = [];
  include_folders = [];
  lib_folders = [];
  operands = [];
  places = [];
}

-- the last word is refused
abbrev pub refusal : Slots → Reason → PlanFault
refusal given reason = Refused given.at reason

-- what the last word holds, unless it is bad
abbrev pub valid : {A : Type 0} → Slots → Option A → Result A PlanFault
valid given None = Err (refusal given BadValue)
valid given (Some value) = Ok value

-- one more argument of the preprocessor: an option and its value
abbrev pub with_cpp_word : List ℕ → List ℕ → Slots → Slots
with_cpp_word option value given = record given { cpp_words = given.cpp_words ++ (option ++ value) ∷ [] }

-- one more operand, at the place of the last word
abbrev pub with_operand : Operand → Slots → Slots
with_operand operand given = record given { operands = given.operands ++ operand ∷ []; places = given.places ++ given.at ∷ [] }

-- an option with its value, which the last word holds: an equation for each option
abbrev pub with_value : Key → List ℕ → Slots → Reading
with_value Output value given = do
  path ← valid given (path_of value)
  Ok (record given { output = Some path })
with_value IncludeFolder value given = do
  folder ← valid given (folder_of value)
  Ok (with_cpp_word (codes "-I") folder (record given { include_folders = given.include_folders ++ folder ∷ [] }))
with_value Define value given = do
  definition ← valid given (definition_of value)
  Ok (with_cpp_word (codes "-D") definition given)
with_value Undefine value given = do
  name ← valid given (macro_name_of value)
  Ok (with_cpp_word (codes "-U") name given)
with_value LibraryFolder value given = do
  folder ← valid given (folder_of value)
  Ok (record given { lib_folders = given.lib_folders ++ folder ∷ [] })
with_value LibraryName value given = do
  name ← valid given (library_name_of value)
  Ok (with_operand (Library name) given)

-- an option, with the value that is joined to it, or without: then its value is the next word
abbrev pub with_option : Key → List ℕ → Slots → Reading
with_option key value given = if bytes_eq value [] then Ok (record given { waiting = Some key }) else with_value key value given

-- `-o`, unless there is one before it
abbrev pub with_output : Option ℕ → List ℕ → Slots → Reading
with_output None value given = with_option Output value (record given { output_at = Some given.at })
with_output (Some earlier) value given = Err (refusal given Unknown)

-- the number of stages up to a stop
abbrev pub stages_to : Stop → ℕ
stages_to Preprocess = 1
stages_to Compile = 2
stages_to Assemble = 3
stages_to Link = 4

-- a stop, unless there is a different one before it
abbrev pub with_stop : Option Stop → Stop → Slots → Reading
with_stop None stop given = Ok (record given { stop = Some stop })
with_stop (Some earlier) stop given = if stages_to earlier == stages_to stop then Ok given else Err (refusal given TwoStages)

-- a word for the compiler
abbrev pub with_passed_word : List ℕ → Slots → Reading
with_passed_word word given = do
  passed ← valid given (passed_word_of word)
  Ok (record given { cc_words = given.cc_words ++ passed ∷ [] })

-- a file
abbrev pub with_file : List ℕ → Slots → Reading
with_file word given = do
  path ← valid given (path_of word)
  Ok (with_operand (operand_at path) given)

-- a word that isn't the value of the one before it: an equation for each kind of word
abbrev pub with_class : WordClass → List ℕ → Slots → Reading
with_class (StopAt stop) word given = with_stop given.stop stop given
with_class OutputOption word given = with_output given.output_at (after_option word) given
with_class (ValueOption key) word given = with_option key (after_option word) given
with_class PassedOn word given = with_passed_word word given
with_class Unmodelled word given = Err (refusal given Unknown)
with_class File word given = with_file word given

-- a word: the value that an option waits for, or else by what it is
abbrev pub with_next : Option Key → List ℕ → Slots → Reading
with_next (Some key) word given = with_value key word (record given { waiting = None })
with_next None word given = with_class (class_of word) word given

-- one word more
unfoldable pub with_word : List ℕ → Slots → Reading
with_word word given = let moved = record given { at = place_after given.at } in with_next moved.waiting word moved

-- all words, in order
abbrev pub with_words : List (List ℕ) → Slots → Reading
with_words [] given = Ok given
with_words (word ∷ words) given = do
  more ← with_word word given
  with_words words more
