-- The symbolic way of doing plans: tools aren't run, and thunks of their work are stored.
use Rattle.std.specs.Prelude.{ℕ, suc, min, List, [], ◌∷◌, ◌++◌, codes, Option, Some, None, Result, Ok, Err}
use Rattle.object_name.specs.Name.{ObjectName, name_of}
use Rattle.object_name.specs.Kind.{kind_of}
use Rattle.object_name.specs.declared.kind.Kind.{Kind}
use Rattle.object_name.specs.declared.kind.Kind.TheVariants as kinds
use Rattle.thunk_codec.specs.Card.{card_text}
use Rattle.thunk_codec.specs.Thunk.{Parts, text_of}
use Rattle.thunk_codec.specs.declared.reference.Ref.{Ref}
use Rattle.thunk_codec.specs.declared.reference.Ref.TheVariants as refs
use Rattle.blob_store.specs.Store.{Store, Write, written, other_held, storing}
use Rattle.file_tree.specs.Files.{Files, after_change, file_read}
use Rattle.file_tree.specs.declared.change.Change.{Change}
use Rattle.file_tree.specs.declared.model_fault.Reason.TheVariants.{WrongKind}
use Rattle.file_tree.specs.declared.refusal.FileRefusal.{FileRefusal}
use Rattle.build_plan.specs.declared.gathered.Gathered.{Gathered}
use Rattle.build_plan.specs.declared.gathered.Gathered.TheVariants.{Plain, Output}
use Rattle.build_plan.specs.declared.plan.Plan.{Plan}
use Rattle.build_plan.specs.declared.plan.Source.{Source}
use Rattle.build_plan.specs.declared.plan.Source.TheVariants.{File, Made}
use Rattle.build_plan.specs.declared.plan.Stage.{Stage}
use Rattle.build_plan.specs.Doing.{Why, Got, Stopped, Doing, ◌>>=◌, ◌>>◌, give, current, unless, each}
use Rattle.build_plan.specs.Doing.Why.{Clash, Unmodelled}
use Rattle.build_plan.specs.Doing.Why.{File as Refused}
use Rattle.build_plan.specs.Gathered.{item_of, item_bytes}
use Rattle.build_plan.specs.Way.{Way, item_at, scanned_stage, done}

-- the store with the writes that were made, the tree with its changes, and the number of thunks that were made
pub record Work : Type 0 where
  pub store : Store
  pub writes : List Write
  pub files : Files
  pub changes : List Change
  pub thunks : ℕ

-- before anything is done
abbrev pub begun : Store → Files → Work
begun store files = record { store = store; writes = []; files = files; changes = []; thunks = 0 }

-- what was read, or work stops for the refusal of the file
abbrev pub item_or : Result Gathered FileRefusal → Result Gathered Why
item_or (Ok item) = Ok item
item_or (Err refusal) = Err (Refused refusal)

-- a file is read: a placeholder stands for its output, and other bytes for themselves
abbrev pub read_item : List ℕ → Doing Work Gathered
read_item path = do
  s ← current
  unless (item_or (item_of path (file_read (s.files path))))

-- an object is stored, unless it is held; other bytes of its name are a clash
abbrev pub stored_by : List ℕ → Option (List ℕ) → Doing Work ObjectName
stored_by bytes None = λ s. Got (name_of bytes) (record s { store = written s.store (storing s.store bytes); writes = s.writes ++ storing s.store bytes })
stored_by bytes (Some found) = λ s. Stopped (Clash (name_of bytes) found bytes) s

abbrev pub stored : List ℕ → Doing Work ObjectName
stored bytes = do
  s ← current
  stored_by bytes (other_held s.store bytes)

-- the REF of some bytes, by their kind: a value is stored, and a thunk's text, taken as it is, is no input of a tool
abbrev pub value_ref : List ℕ → Kind → Doing Work Ref
value_ref bytes kinds.Value = do
  name ← stored bytes
  give (refs.Value name)
value_ref bytes kinds.Thunk = unless (Err (Unmodelled WrongKind))

-- the REF of what was gathered: bytes are stored
abbrev pub ref_of_item : Gathered → Doing Work Ref
ref_of_item (Plain bytes) = value_ref bytes (kind_of bytes)
ref_of_item (Output name index) = give (refs.Out name index)

-- where an input comes from: a file that is read, or what was gathered
abbrev pub source_item : List Gathered → Source → Doing Work Gathered
source_item items (File path) = read_item path
source_item items (Made place) = give (item_at (Plain []) items place)

-- an input with its REF: it is read, and its bytes are stored
abbrev pub input_ref : List Gathered → List ℕ × Source → Doing Work (List ℕ × Ref)
input_ref items input = do
  item ← source_item items input.1
  ref ← ref_of_item item
  give (input.0, ref)

-- a thunk is stored and counted
abbrev pub thunk_stored : Parts → Doing Work ObjectName
thunk_stored parts = do
  name ← stored (text_of parts)
  λ s. Got name (record s { thunks = suc s.thunks })

-- the one output of a thunk of a plan
abbrev pub one_output : List (List ℕ)
one_output = codes "out" ∷ []

-- the parts of the thunk of a stage
abbrev pub parts_by : Stage → Ref → List (List ℕ × Ref) → Parts
parts_by stage function inputs = record { function = function; args = stage.args; envs = []; inputs = inputs; outputs = one_output }

-- a stage: the tool's card, the bytes among its inputs in order, and the thunk are stored; its output stands for what the tool gives
abbrev pub thunk_made : List Gathered → Stage → Doing Work Gathered
thunk_made items stage = do
  card ← stored (card_text stage.tool)
  inputs ← each (input_ref items) stage.inputs
  name ← thunk_stored (parts_by stage (refs.Value card) inputs)
  give (Output name 0)

-- a file is changed
abbrev pub file_changed : Change → Doing Work (Unit {0})
file_changed change = λ s. Got tt (record s { files = after_change s.files change; changes = s.changes ++ change ∷ [] })

-- the symbolic way
abbrev pub symbolic : Way Work Gathered
symbolic = record {
  read = read_item;
  run = thunk_made;
  run_scanned = λ scanning paths. thunk_made [] (scanned_stage scanning paths);
  plain = Plain;
  file_bytes = item_bytes;
  files = λ s. s.files;
  change = file_changed;
}

-- a plan is applied, and gives the number of thunks that were made; a number that would pass 4,294,967,295 is that
abbrev pub applied : Plan → Doing Work ℕ
applied plan = do
  done symbolic plan
  s ← current
  give (min s.thunks 4294967295)
