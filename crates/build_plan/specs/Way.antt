-- What a plan does, by one way of doing it: how files are read, how tools are run, and what files get.
use Rattle.std.specs.Prelude.{ℕ, List, [], ◌∷◌, ◌++◌, map, slice_get, unwrap_or, is_some, Option, Some, None, Result, Ok, Err, if◌then◌else◌}
use Rattle.file_tree.specs.Files.{Files, file_read}
use Rattle.file_tree.specs.declared.change.Change.{Change}
use Rattle.file_tree.specs.declared.change.Change.TheVariants.{Written, Removed}
use Rattle.file_tree.specs.declared.model_fault.Reason.TheVariants.{TooMany}
use Rattle.file_tree.specs.declared.refusal.FileRefusal.TheVariants.{NoFile, TooLong}
use Rattle.file_tree.specs.declared.tree.FileRead.{FileRead}
use Rattle.file_tree.specs.declared.tree.FileRead.TheVariants as reads
use Rattle.include_scan.specs.Scanning.{Visiting, scanned_paths}
use Rattle.include_scan.specs.declared.fault.ScanFault.TheVariants as scans
use Rattle.build_plan.specs.declared.plan.Plan.{Plan}
use Rattle.build_plan.specs.declared.plan.Scanning.{Scanning}
use Rattle.build_plan.specs.declared.plan.Source.{Source}
use Rattle.build_plan.specs.declared.plan.Source.TheVariants.{File}
use Rattle.build_plan.specs.declared.plan.Stage.{Stage}
use Rattle.build_plan.specs.declared.plan.Step.{Step}
use Rattle.build_plan.specs.declared.plan.Step.TheVariants.{Read, Take, Find, Run, Scan}
use Rattle.build_plan.specs.declared.plan.Target.{Target}
use Rattle.build_plan.specs.declared.plan.Target.TheVariants.{Keep, Drop}
use Rattle.build_plan.specs.Doing.{Why, Doing, ◌>>=◌, ◌>>◌, give, current, unless, each}
use Rattle.build_plan.specs.Doing.Why.{File as Refused, Unmodelled}

-- a way of doing plans: reading a file, running a tool over what was gathered, running it over the scanned files of a source, what bytes
-- are, what a file gets, and changing a file; there is a tree of files in the state
pub record Way (S A : Type 0) : Type 0 where
  pub read : List ℕ → Doing S A
  pub run : List A → Stage → Doing S A
  pub run_scanned : Scanning → List (List ℕ) → Doing S A
  pub plain : List ℕ → A
  pub file_bytes : A → List ℕ
  pub files : S → Files
  pub change : Change → Doing S (Unit {0})

-- what was gathered by the step at a place, or what stands where nothing was
abbrev pub item_at : {A : Type 0} → A → List A → ℕ → A
item_at nothing items place = unwrap_or (slice_get items place) nothing

-- the bytes of a file, whatever they are
abbrev pub bytes_or : List ℕ → FileRead → Result (List ℕ) Why
bytes_or path reads.Absent = Err (Refused (NoFile path))
bytes_or path (reads.Bytes bytes) = Ok bytes
bytes_or path reads.TooLong = Err (Refused (TooLong path))

-- the first of some paths that is there
unfoldable pub first_found : Files → List (List ℕ) → Option (List ℕ)
first_found files [] = None
first_found files (path ∷ paths) = elim (files path) [ Some bytes ↦ Some path | None ↦ first_found files paths ]

-- that path, or the refusal of what isn't there
abbrev pub found_or : List ℕ → Option (List ℕ) → Result (List ℕ) Why
found_or missing (Some path) = Ok path
found_or missing None = Err (Refused (NoFile missing))

-- the files of a scanned source, or why work stops
abbrev pub scanned_or : Visiting → Result (List (List ℕ)) Why
scanned_or (Ok paths) = Ok paths
scanned_or (Err (scans.Refused refusal)) = Err (Refused refusal)
scanned_or (Err scans.TooMany) = Err (Unmodelled TooMany)
scanned_or (Err scans.Failed) = Err (Unmodelled TooMany)
scanned_or (Err scans.Memory) = Err (Unmodelled TooMany)

-- a file is an input under its own path
abbrev pub file_input : List ℕ → List ℕ × Source
file_input path = (path, File path)

-- the stage of a scanned source: the scanned files are its inputs
abbrev pub scanned_stage : Scanning → List (List ℕ) → Stage
scanned_stage s paths = record { tool = s.tool; args = s.args; inputs = map file_input paths; optional = None; target = s.target }

-- the optional input of a stage, if its file is there
abbrev pub optional_input : Files → Option (List ℕ × List ℕ) → List (List ℕ × Source)
optional_input files None = []
optional_input files (Some input) = if is_some (files input.1) then (input.0, File input.1) ∷ [] else []

-- a stage with its optional input among the others, if its file is there
abbrev pub completed : Files → Stage → Stage
completed files stage = record stage { inputs = stage.inputs ++ optional_input files stage.optional; optional = None }

module _ {S A : Type 0} (way : Way S A) where
  -- what a step gathers
  abbrev pub taken : List A → Step → Doing S A
  taken items (Read path) = way.read path
  taken items (Take path) = do
    s ← current
    bytes ← unless (bytes_or path (file_read (way.files s path)))
    give (way.plain bytes)
  taken items (Find missing places) = do
    s ← current
    path ← unless (found_or missing (first_found (way.files s) places))
    way.read path
  taken items (Run stage) = do
    s ← current
    way.run items (completed (way.files s) stage)
  taken items (Scan scanning) = do
    s ← current
    paths ← unless (scanned_or (scanned_paths (way.files s) scanning.folders scanning.source))
    way.run_scanned scanning paths

  -- what some steps gather, one after another, after what was gathered
  abbrev pub gathered : List Step → List A → Doing S (List A)
  gathered [] items = give items
  gathered (step ∷ steps) items = do
    item ← taken items step
    gathered steps (items ++ item ∷ [])

  -- a file gets what a step gathered, or is removed
  abbrev pub change_of : List A → Target → Change
  change_of items (Keep path place) = Written path (way.file_bytes (item_at (way.plain []) items place))
  change_of items (Drop path) = Removed path

  -- a plan: its steps gather, and only then files are changed
  abbrev pub done : Plan → Doing S (Unit {0})
  done plan = do
    items ← gathered plan.steps []
    each way.change (map (change_of items) plan.targets)
    give tt
