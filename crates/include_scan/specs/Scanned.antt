-- The files that preprocessing a source may read: the least set that has the source and what each of its files may include.
use Rattle.std.specs.Prelude.{◌≡◌, ℕ, List, [], ◌∷◌, Bool, Some, None, IfSome, IsTrue, Contains, map, unwrap_or, if◌then◌else◌}
use Rattle.std.specs.List.{flat_map}
use Rattle.std.specs.Option.{is_some}
use Rattle.thunk_codec.specs.declared.job.Job.{Job}
use Rattle.thunk_codec.specs.Files.{Files, files_at, files_of}
use Rattle.text_lines.specs.Among.{is_among}
use Rattle.text_lines.specs.Lines.{lines_of}
use Rattle.tool_text.specs.Cpp.{with_arguments, no_settings, cpp_outcome}
use Rattle.tool_text.specs.Directive.{Target, directive_of}
use Rattle.tool_text.specs.Expand.{Macros}
use Rattle.tool_text.specs.IncludeLine.{IncludeForm, Other, Includes, Computed, include_of}
use Rattle.tool_text.specs.Including.{candidates, first_there}
use Rattle.tool_text.specs.Preprocess.{preprocessed}

-- the file that a line asks for, if it is an include line and its form says one
abbrev pub asked_by : IncludeForm → List Target
asked_by (Includes target) = target ∷ []
asked_by Computed = []
asked_by Other = []

-- the same of the line
abbrev pub line_targets : List ℕ → List Target
line_targets line = asked_by (include_of (directive_of line))

-- what the include lines of a text ask for, whatever group they stand in
abbrev pub include_targets : List ℕ → List Target
include_targets bytes = flat_map line_targets (lines_of bytes)

-- the bytes at a path
abbrev pub bytes_at : Files → List ℕ → List ℕ
bytes_at files path = unwrap_or (files path) []

-- a set of paths that has the source, and for each include line of a member the first candidate that is there
pub record IsClosed (files : Files) (folders : List (List ℕ)) (source : List ℕ) (is_in : List ℕ → Bool) : Type 0 where
  pub source_in : IsTrue (is_in source)
  pub includes_in : (path : List ℕ) → IsTrue (is_in path) → (target : Target) → Contains (include_targets (bytes_at files path)) target
      → (found : List ℕ) → first_there files (candidates folders path target) ≡ Some found → IsTrue (is_in found)

-- the least such set
pub record IsScanned (files : Files) (folders : List (List ℕ)) (source : List ℕ) (is_in : List ℕ → Bool) : Type 0 where
  pub closed : IsClosed files folders source is_in
  pub least : (other : List ℕ → Bool) → IsClosed files folders source other → (path : List ℕ) → IsTrue (is_in path) → IsTrue (other path)

-- the files of a set alone
abbrev pub only : (List ℕ → Bool) → Files → Files
only is_in files = λ path. if is_in path then files path else None

-- the files at some paths, as the inputs of a job
abbrev pub inputs_of : Files → List (List ℕ) → List (List ℕ × List ℕ)
inputs_of files paths = map (λ path. (path, bytes_at files path)) paths

-- preprocessing a source with these files alone as inputs gives what it gives with all files, whatever is defined
abbrev pub Suffices : Files → List (List ℕ) → List ℕ → List (List ℕ) → Type 0
Suffices files folders source paths = (macros : Macros) →
    preprocessed (files_at (inputs_of files paths)) folders macros source ≡ preprocessed files folders macros source

-- a file is at each of some paths
abbrev pub AreThere : Files → List (List ℕ) → Type 0
AreThere files paths = (path : List ℕ) → IsTrue (is_among paths path) → IsTrue (is_some (files path))

-- the arguments of a job over a source: the first is its path, and the others give these folders, if they are of their form
pub record IsOver (folders : List (List ℕ)) (source : List ℕ) (args : List (List ℕ)) : Type 0 where
  pub others : List (List ℕ)
  pub source_first : args ≡ source ∷ others
  pub folders_behind : IfSome (with_arguments others no_settings) (λ settings. settings.folders ≡ folders)

-- a job with other inputs, and all else as it was
abbrev pub with_inputs : Job → List (List ℕ × List ℕ) → Job
with_inputs job inputs = record job { inputs = inputs }

-- a job of `cpp` over a source whose inputs are all files has the same outcome with these files alone as inputs
abbrev pub SufficesForJobs : Files → List (List ℕ) → List ℕ → List (List ℕ) → Type 0
SufficesForJobs files folders source paths = (job : Job) → ((path : List ℕ) → files_of job path ≡ files path) → IsOver folders source job.args
    → cpp_outcome (with_inputs job (inputs_of files paths)) ≡ cpp_outcome job
