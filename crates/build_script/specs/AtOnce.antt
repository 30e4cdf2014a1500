-- The way of doing plans at once: each tool is run, on bytes.
use Rattle.std.specs.Prelude.{ℕ, List, [], ◌∷◌, ◌++◌, Option, Some, None, Result, Ok, Err}
use Rattle.object_name.specs.declared.kind.Kind.{Kind}
use Rattle.object_name.specs.declared.kind.Kind.TheVariants as kinds
use Rattle.object_name.specs.Kind.{kind_of}
use Rattle.object_name.specs.Name.{ObjectName}
use Rattle.thunk_codec.specs.Card.{card_text}
use Rattle.thunk_codec.specs.Placeholder.{placeholder_of}
use Rattle.thunk_codec.specs.declared.job.Job.{Job}
use Rattle.thunk_codec.specs.declared.job.Outcome.{Outcome}
use Rattle.thunk_codec.specs.declared.job.Outcome.TheVariants.{Done, Failed}
use Rattle.file_tree.specs.Files.{Files, after_change, file_read}
use Rattle.file_tree.specs.declared.change.Change.{Change}
use Rattle.file_tree.specs.declared.refusal.FileRefusal.TheVariants.{NoFile, TooLong, Generated, ThunkText}
use Rattle.file_tree.specs.declared.tree.FileRead.{FileRead}
use Rattle.file_tree.specs.declared.tree.FileRead.TheVariants as reads
use Rattle.include_scan.specs.Scanned.{inputs_of}
use Rattle.build_plan.specs.declared.plan.Scanning.{Scanning}
use Rattle.build_plan.specs.declared.plan.Source.{Source}
use Rattle.build_plan.specs.declared.plan.Source.TheVariants.{File, Made}
use Rattle.build_plan.specs.declared.plan.Stage.{Stage}
use Rattle.build_plan.specs.Doing.{Why, Tool, Got, Doing, ◌>>=◌, ◌>>◌, give, current, unless, each}
use Rattle.build_plan.specs.Doing.Why.{File as Refused}
use Rattle.build_plan.specs.Symbolic.{one_output}
use Rattle.build_plan.specs.Way.{Way, item_at, scanned_stage}

-- the tree with its changes, and the jobs that were run, in order
pub record Ran : Type 0 where
  pub files : Files
  pub changes : List Change
  pub jobs : List Job

-- before anything is done
abbrev pub not_run : Files → Ran
not_run files = record { files = files; changes = []; jobs = [] }

-- a file that is read by a tool is no placeholder
abbrev pub plain_bytes : List ℕ → List ℕ → Option (ObjectName × ℕ) → Result (List ℕ) Why
plain_bytes path bytes (Some output) = Err (Refused (Generated path))
plain_bytes path bytes None = Ok bytes

-- the bytes of a file for a tool, by what reading it gives
abbrev pub bytes_of : List ℕ → FileRead → Result (List ℕ) Why
bytes_of path reads.Absent = Err (Refused (NoFile path))
bytes_of path (reads.Bytes bytes) = plain_bytes path bytes (placeholder_of bytes)
bytes_of path reads.TooLong = Err (Refused (TooLong path))

-- a file is read for a tool
abbrev pub read_bytes : List ℕ → Doing Ran (List ℕ)
read_bytes path = do
  s ← current
  unless (bytes_of path (file_read (s.files path)))

-- the job of a stage over these inputs
abbrev pub job_by : Stage → List (List ℕ × List ℕ) → Job
job_by stage inputs = record { function = card_text stage.tool; args = stage.args; envs = []; inputs = inputs; outputs = one_output }

-- the one output of a tool, which is no thunk
abbrev pub no_thunk : List ℕ → List ℕ → Kind → Result (List ℕ) Why
no_thunk target bytes kinds.Value = Ok bytes
no_thunk target bytes kinds.Thunk = Err (Refused (ThunkText target))

abbrev pub output_of : List ℕ → List (List ℕ) → Result (List ℕ) Why
output_of target (bytes ∷ []) = no_thunk target bytes (kind_of bytes)
output_of target others = Err (Tool 202)

-- what a tool gives, or why work stops
abbrev pub output_by : List ℕ → Outcome → Result (List ℕ) Why
output_by target (Done outputs) = output_of target outputs
output_by target (Failed status) = Err (Tool status)

-- where an input comes from: a file that is read, or what was gathered
abbrev pub source_bytes : List (List ℕ) → Source → Doing Ran (List ℕ)
source_bytes items (File path) = read_bytes path
source_bytes items (Made place) = give (item_at [] items place)

-- an input under its path in the job
abbrev pub input_bytes : List (List ℕ) → List ℕ × Source → Doing Ran (List ℕ × List ℕ)
input_bytes items input = do
  bytes ← source_bytes items input.1
  give (input.0, bytes)

-- one job more was run
abbrev pub job_run : Job → Doing Ran (Unit {0})
job_run job = λ s. Got tt (record s { jobs = s.jobs ++ job ∷ [] })

-- a file is changed
abbrev pub file_changed : Change → Doing Ran (Unit {0})
file_changed change = λ s. Got tt (record s { files = after_change s.files change; changes = s.changes ++ change ∷ [] })

module _ (outcome : Job → Outcome) where
  -- a stage: its inputs are read, and the tool is run
  abbrev pub tool_run : List (List ℕ) → Stage → Doing Ran (List ℕ)
  tool_run items stage = do
    inputs ← each (input_bytes items) stage.inputs
    job_run (job_by stage inputs)
    unless (output_by stage.target (outcome (job_by stage inputs)))

module _ (outcome : Job → Outcome) (whole : Files → Scanning → Outcome) where
  -- a tool over a scanned source sees all files; its job is noted with the scanned files
  abbrev pub scanned_run : Scanning → List (List ℕ) → Doing Ran (List ℕ)
  scanned_run scanning paths = do
    s ← current
    job_run (job_by (scanned_stage scanning paths) (inputs_of s.files paths))
    unless (output_by scanning.target (whole s.files scanning))

  -- the way at once, by what tools give
  abbrev pub at_once : Way Ran (List ℕ)
  at_once = record {
    read = read_bytes;
    run = tool_run outcome;
    run_scanned = scanned_run;
    plain = λ bytes. bytes;
    file_bytes = λ bytes. bytes;
    files = λ s. s.files;
    change = file_changed;
  }
