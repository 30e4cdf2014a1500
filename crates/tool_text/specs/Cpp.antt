-- The card `cpp`: the preprocessor, with include folders and definitions as arguments.
use Rattle.std.specs.Prelude.{ℕ, List, [], ◌∷◌, ◌++◌, ◌==◌, Option, Some, None, Result, Ok, Err, length, nat_eq, drop, codes, if◌then◌else◌}
use Rattle.std.specs.List.{starts_with}
use Rattle.std.specs.Option.{is_some}
use Rattle.thunk_codec.specs.declared.job.Job.{Job}
use Rattle.thunk_codec.specs.declared.job.Outcome.{Outcome}
use Rattle.thunk_codec.specs.declared.job.Outcome.TheVariants.{Done, Failed}
use Rattle.thunk_codec.specs.Folder.{is_folder}
use Rattle.thunk_codec.specs.Job.{input_at}
use Rattle.text_lines.specs.Cuts.{split_at_byte}
use Rattle.text_lines.specs.Maybe.{◌>>=◌, ◌>>◌, check}
use Rattle.thunk_codec.specs.Thunk.{is_identifier}
use Rattle.thunk_codec.specs.Files.{files_of}
use Rattle.tool_text.specs.declared.failure.Failure.{Failure}
use Rattle.tool_text.specs.declared.failure.Failure.TheVariants.{BadDirective, HeaderNotFound, TooDeep, TooManyLines, OutputTooLong}
use Rattle.tool_text.specs.Expand.{Macros, with_macro}
use Rattle.tool_text.specs.Preprocess.{State, preprocessed}

-- the include folders and the definitions that arguments give
pub record Settings : Type 0 where
  pub folders : List (List ℕ)
  pub macros : Macros

-- no folder, and nothing defined
abbrev pub no_settings : Settings
no_settings = record { folders = []; macros = λ name. None }

-- the folder of a text that is one as it stands
abbrev pub folder_as_is : List ℕ → Option (List ℕ)
folder_as_is text = if is_folder text then Some text else None

-- one more include folder, after the others
abbrev pub with_folder : List ℕ → Settings → Option Settings
with_folder text settings = do
  folder ← folder_as_is text
  Some (record settings { folders = settings.folders ++ folder ∷ [] })

-- one more definition: an identifier, `=` and its text
abbrev pub with_definition : List ℕ → Settings → Option Settings
with_definition text settings = do
  cut ← split_at_byte 61 text
  check (is_identifier cut.0)
  Some (record settings { macros = with_macro cut.0 (Some cut.1) settings.macros })

-- one identifier forgotten
abbrev pub without_definition : List ℕ → Settings → Option Settings
without_definition name settings = do
  check (is_identifier name)
  Some (record settings { macros = with_macro name None settings.macros })

-- an argument after the first: `-I`, `-D` or `-U` and what belongs to it
unfoldable pub with_argument : List ℕ → Settings → Option Settings
with_argument arg settings =
    if starts_with nat_eq arg (codes "-I") then with_folder (drop 2 arg) settings
    else if starts_with nat_eq arg (codes "-D") then with_definition (drop 2 arg) settings
    else if starts_with nat_eq arg (codes "-U") then without_definition (drop 2 arg) settings
    else None

-- the arguments after the first, in order
abbrev pub with_arguments : List (List ℕ) → Settings → Option Settings
with_arguments [] settings = Some settings
with_arguments (arg ∷ args) settings = with_argument arg settings >>= λ now. with_arguments args now

-- the status of a failure
abbrev pub failure_status : Failure → ℕ
failure_status BadDirective = 71
failure_status HeaderNotFound = 72
failure_status TooDeep = 73
failure_status TooManyLines = 74
failure_status OutputTooLong = 75

-- the outcome of preprocessing
abbrev pub result_outcome : Result State Failure → Outcome
result_outcome (Ok state) = Done (state.out ∷ [])
result_outcome (Err failure) = Failed (failure_status failure)

-- the outcome with settings, where the arguments gave some
abbrev pub outcome_with : Job → List ℕ → Option Settings → Outcome
outcome_with job source None = Failed 64
outcome_with job source (Some settings) =
    result_outcome (preprocessed (files_of job) settings.folders settings.macros source)

-- the first argument is the path of the source, which is an input
abbrev pub arguments_outcome : Job → List (List ℕ) → Outcome
arguments_outcome job [] = Failed 64
arguments_outcome job (source ∷ args) =
    if is_some (input_at source job.inputs) then outcome_with job source (with_arguments args no_settings) else Failed 64

-- one output, else status 64
unfoldable pub cpp_outcome : Job → Outcome
cpp_outcome job = if length job.outputs == 1 then arguments_outcome job job.args else Failed 64
