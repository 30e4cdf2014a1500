-- What the steps of applying a plan do, by their answers: words of the contracts of private functions.
use Rattle.std.specs.Prelude.{◌≡◌, ◌≤◌, ◌+◌, ℕ, List, [], ◌∷◌, ◌++◌, length, map, min, Bool, if◌then◌else◌, Option, Some, None, Result, Ok, Err}
use Rattle.object_name.specs.Causes.{TriesAtMost}
use Rattle.object_name.specs.Name.{ObjectName, max_size}
use Rattle.object_name.specs.Streams.{IsPrefix}
use Rattle.object_name.specs.declared.trouble.Trouble.{Trouble}
use Rattle.object_name.specs.declared.trouble.Trouble.TheVariants as troubles
use Rattle.thunk_codec.specs.Reference.{IsRef}
use Rattle.thunk_codec.specs.Thunk.{Parts}
use Rattle.thunk_codec.specs.declared.reference.Ref.{Ref}
use Rattle.thunk_codec.specs.declared.reference.Ref.TheVariants.{Out}
use Rattle.blob_store.specs.Store.{Write, written}
use Rattle.blob_store.specs.Keeping.{Kept, WritesPrefix, all_written}
use Rattle.blob_store.specs.declared.storing.StoreFault.{StoreFault}
use Rattle.blob_store.specs.declared.storing.StoreFault.TheVariants as stores
use Rattle.file_tree.specs.Files.{Files, Filed, ChangesPrefix, all_changed, file_read}
use Rattle.file_tree.specs.declared.change.Change.{Change}
use Rattle.file_tree.specs.declared.tree.FileRead.{FileRead}
use Rattle.file_tree.specs.declared.tree.FileRead.TheVariants as reads
use Rattle.file_tree.specs.declared.model_fault.ApplyFault.{ApplyFault}
use Rattle.file_tree.specs.declared.model_fault.ApplyFault.TheVariants as faults
use Rattle.file_tree.specs.declared.model_fault.Reason.TheVariants.{TooMany}
use Rattle.include_scan.specs.declared.fault.ScanFault.{ScanFault}
use Rattle.include_scan.specs.declared.fault.ScanFault.TheVariants as scans
use Rattle.build_plan.specs.declared.gathered.Gathered.{Gathered}
use Rattle.build_plan.specs.declared.gathered.Gathered.TheVariants.{Plain, Output}
use Rattle.build_plan.specs.declared.plan.Source.{Source}
use Rattle.build_plan.specs.declared.plan.Stage.{Stage}
use Rattle.build_plan.specs.declared.plan.Step.{Step}
use Rattle.build_plan.specs.declared.plan.Step.TheVariants.{Read, Take, Find, Run, Scan}
use Rattle.build_plan.specs.Doing.{Why, File, Unmodelled, Clash, Stopped, Doing, ◌>>=◌, give, each, state_after}
use Rattle.build_plan.specs.Gathered.{item_of}
use Rattle.build_plan.specs.Way.{file_input, first_found, found_or, gathered, optional_input}
use Rattle.build_plan.specs.Symbolic.{Work, symbolic, input_ref, item_or, read_item, ref_of_item, source_item, thunk_stored}
use Rattle.build_plan.specs.Creating.{recipe_parts}
use Rattle.build_plan.specs.declared.recipe.Recipe.{Recipe}
use Rattle.build_plan.specs.Applying.{Sides, ApplyCause, ClashShows, kept_failures, file_failures}

-- ---- items

-- an item is bytes that an object may have, or an output of a thunk
abbrev pub IsItem : Gathered → Type 0
IsItem (Plain bytes) = length bytes ≤ max_size
IsItem (Output name index) = IsRef (Out name index)

-- the item of the first of some paths that is there, or why work stops
abbrev pub item_at_path : Files → Result (List ℕ) Why → Result Gathered Why
item_at_path files (Ok path) = item_or (item_of path (file_read (files path)))
item_at_path files (Err why) = Err why

abbrev pub first_item : Files → List ℕ → List (List ℕ) → Result Gathered Why
first_item files missing places = item_at_path files (found_or missing (first_found files places))

-- what a file is gathered as, if it is there
abbrev pub some_item : Result Gathered Why → Result (Option Gathered) Why
some_item (Ok item) = Ok (Some item)
some_item (Err why) = Err why

abbrev pub item_if_there : List ℕ → FileRead → Result (Option Gathered) Why
item_if_there path reads.Absent = Ok None
item_if_there path (reads.Bytes bytes) = some_item (item_or (item_of path (reads.Bytes bytes)))
item_if_there path reads.TooLong = some_item (item_or (item_of path reads.TooLong))

-- bytes that were taken as they are
abbrev pub plain_or : Result (List ℕ) Why → Result Gathered Why
plain_or (Ok bytes) = Ok (Plain bytes)
plain_or (Err why) = Err why

-- the stage of these parts
abbrev pub stage_of : List ℕ → List (List ℕ) → List (List ℕ × Source) → List ℕ → Stage
stage_of tool args inputs target = record { tool = tool; args = args; inputs = inputs; optional = None; target = target }

-- paths of inputs, and behind them that of the optional input, if its file is there in a tree
pub record AreCompleted (before : List (List ℕ)) (optional : Option (List ℕ × List ℕ)) (after : List (List ℕ)) : Type 0 where
  pub files : Files
  pub paths : after ≡ before ++ map (λ input. input.0) (optional_input files optional)

-- the REF of the file at a path, and of the source of an input
abbrev pub file_ref : List ℕ → Doing Work Ref
file_ref path = read_item path >>= ref_of_item

abbrev pub source_ref : List Gathered → Source → Doing Work Ref
source_ref items source = source_item items source >>= ref_of_item

-- more inputs behind some
abbrev pub more_refs : List Gathered → List (List ℕ × Ref) → List (List ℕ × Source) → Doing Work (List (List ℕ × Ref))
more_refs items refs inputs = each (input_ref items) inputs >>= λ more. give (refs ++ more)

-- an input that was read, behind some, if it was there
abbrev pub read_refs : List (List ℕ × Ref) → List ℕ → Option Gathered → Doing Work (List (List ℕ × Ref))
read_refs refs place None = give refs
read_refs refs place (Some item) = ref_of_item item >>= λ ref. give (refs ++ (place, ref) ∷ [])

-- its path, if it was there
abbrev pub place_if : List ℕ → Bool → List (List ℕ)
place_if place there = if there then place ∷ [] else []

-- the output of a thunk that is stored
abbrev pub stage_output : Parts → Doing Work Gathered
stage_output parts = thunk_stored parts >>= λ name. give (Output name 0)

-- the inputs and the thunk of a recipe with its function
abbrev pub recipe_thunk : Recipe → Ref → Doing Work ObjectName
recipe_thunk recipe function = each (input_ref []) (map file_input recipe.inputs) >>= λ inputs. thunk_stored (recipe_parts recipe function inputs)

-- the parts of a thunk
abbrev pub parts_with : Ref → List (List ℕ) → List (List ℕ × List ℕ) → List (List ℕ × Ref) → List (List ℕ) → Parts
parts_with function args envs inputs outputs = record { function = function; args = args; envs = envs; inputs = inputs; outputs = outputs }

-- what a list has become, where a call that grows it succeeds
abbrev pub grown : {A U : Type 0} → Result U ApplyFault → A → Result A ApplyFault
grown (Ok u) x = Ok x
grown (Err fault) x = Err fault

-- how many thunks a step makes
abbrev pub step_thunks : Step → ℕ
step_thunks (Read path) = 0
step_thunks (Take path) = 0
step_thunks (Find missing places) = 0
step_thunks (Run stage) = 1
step_thunks (Scan scanning) = 1

-- ---- what was done

-- what is told before and after
abbrev pub between : Kept → Kept → Filed → Filed → Sides
between kept_before kept_after files_before files_after =
    record { kept_before = kept_before; kept_after = kept_after; files_before = files_before; files_after = files_after }

-- work begins with the store and the files that are told before
pub record IsAt (w : Work) (before : Kept) (files_before : Filed) : Type 0 where
  pub store : w.store ≡ before.store
  pub files : w.files ≡ files_before.files

-- the work with some writes more, and so many thunks
abbrev pub with_writes : Work → List Write → ℕ → Work
with_writes w made thunks = record w { store = written w.store made; writes = w.writes ++ made; thunks = w.thunks + thunks }

-- some of the work is done: these writes and so many thunks were made, no file was changed, and this is left
pub record Leads {A : Type 0} (work left : Doing Work A) (thunks : ℕ) (s : Sides) : Type 0 where
  pub made : List Write
  pub kept : s.kept_after ≡ all_written s.kept_before made
  pub files : s.files_after ≡ s.files_before
  pub goes_on : (w : Work) → IsAt w s.kept_before s.files_before → work w ≡ left (with_writes w made thunks)

-- the work stops so
pub record StopsAfter {A : Type 0} (work : Doing Work A) (why : Why) (s : Sides) : Type 0 where
  pub thunks : ℕ
  pub leads : Leads work (λ w. Stopped why w) thunks s

-- the work was cut off: what it writes begins with writes of which a prefix was made, and no file was changed
pub record IsCutOff {A : Type 0} (work : Doing Work A) (s : Sides) : Type 0 where
  pub first : List Write
  pub kept : WritesPrefix first s.kept_before s.kept_after
  pub files : s.files_after ≡ s.files_before
  pub begins : (w : Work) → IsAt w s.kept_before s.files_before → IsPrefix (w.writes ++ first) (state_after (work w)).writes

-- what a call did that gathers and stores, by its answer, where it makes so many thunks
abbrev pub Goes : {A : Type 0} → Doing Work A → ℕ → Sides → Result A ApplyFault → Type 0
Goes work thunks s (Ok x) = Leads work (give x) thunks s
Goes work thunks s (Err (faults.Refused refusal)) = StopsAfter work (File refusal) s
Goes work thunks s (Err (faults.Reason reason)) = StopsAfter work (Unmodelled reason) s
Goes work thunks s (Err (faults.Clash name found fresh)) = StopsAfter work (Clash name found fresh) s
Goes work thunks s (Err faults.StoreFailed) = IsCutOff work s
Goes work thunks s (Err faults.FileFailed) = IsCutOff work s
Goes work thunks s (Err faults.Memory) = IsCutOff work s

-- the thunks made are counted up to 4,294,967,295
pub record GathersSteps (steps : List Step) (items : List Gathered) (thunks : ℕ) (s : Sides) : Type 0 where
  pub number : ℕ
  pub counted : thunks ≡ min number 4294967295
  pub leads : Leads (gathered symbolic steps []) (give items) number s

-- the steps of a plan: the items stand in the list that grew
abbrev pub GoesSteps : List Step → List Gathered → Sides → Result ℕ ApplyFault → Type 0
GoesSteps steps items s (Ok thunks) = GathersSteps steps items thunks s
GoesSteps steps items s (Err fault) = Goes (gathered symbolic steps []) 0 s (Err fault)

-- ---- what was read, or stored

-- this was found, or work stops for this
abbrev pub Finds : {A : Type 0} → Result A Why → Result A ApplyFault → Type 0
Finds wanted (Ok x) = wanted ≡ Ok x
Finds wanted (Err (faults.Refused refusal)) = wanted ≡ Err (File refusal)
Finds wanted (Err (faults.Reason reason)) = wanted ≡ Err (Unmodelled reason)
Finds wanted (Err (faults.Clash name found fresh)) = ⊥
Finds wanted (Err faults.StoreFailed) = ⊥
Finds wanted (Err faults.FileFailed) = Unit {0}
Finds wanted (Err faults.Memory) = Unit {0}

-- no call of a keeper or a tree has failed
abbrev pub NoCallFails : {A : Type 0} → Result A ApplyFault → Type 0
NoCallFails (Ok x) = Unit {0}
NoCallFails (Err (faults.Refused refusal)) = Unit {0}
NoCallFails (Err (faults.Reason reason)) = Unit {0}
NoCallFails (Err (faults.Clash name found fresh)) = ⊥
NoCallFails (Err faults.StoreFailed) = ⊥
NoCallFails (Err faults.FileFailed) = ⊥
NoCallFails (Err faults.Memory) = Unit {0}

-- no call of a keeper has failed
abbrev pub IsOfFiles : {A : Type 0} → Result A ApplyFault → Type 0
IsOfFiles (Ok x) = Unit {0}
IsOfFiles (Err (faults.Refused refusal)) = Unit {0}
IsOfFiles (Err (faults.Reason reason)) = Unit {0}
IsOfFiles (Err (faults.Clash name found fresh)) = ⊥
IsOfFiles (Err faults.StoreFailed) = ⊥
IsOfFiles (Err faults.FileFailed) = Unit {0}
IsOfFiles (Err faults.Memory) = Unit {0}

-- no call of a tree has failed
abbrev pub IsOfKeeper : {A : Type 0} → Result A ApplyFault → Type 0
IsOfKeeper (Ok x) = Unit {0}
IsOfKeeper (Err (faults.Refused refusal)) = Unit {0}
IsOfKeeper (Err (faults.Reason reason)) = Unit {0}
IsOfKeeper (Err (faults.Clash name found fresh)) = Unit {0}
IsOfKeeper (Err faults.StoreFailed) = Unit {0}
IsOfKeeper (Err faults.FileFailed) = ⊥
IsOfKeeper (Err faults.Memory) = Unit {0}

-- the counts of a tree have risen as the answer says
pub record FaresFiles {T A : Type 0} (tells : Type 0) (calls counts : T → ℕ) (retries : ℕ) (old now : T) (result : Result A ApplyFault) : Type 0 where
  pub only : IsOfFiles result
  pub later : counts old ≤ counts now
  pub cause : ApplyCause retries 0 0 (counts old) (counts now) result
  pub tries : tells → TriesAtMost retries calls counts old now (file_failures result)

-- a tree was read: it is as it was, and its counts have risen as the answer says
pub record ReadsFiles {T A : Type 0} (tells : Type 0) (files : T → Files) (changes : T → List Change) (calls counts : T → ℕ) (retries : ℕ) (old now : T) (result : Result A ApplyFault) : Type 0 where
  pub same : tells → files now ≡ files old
  pub list : tells → changes now ≡ changes old
  pub fares : FaresFiles tells calls counts retries old now result

-- the counts of a keeper have risen as the answer says
pub record FaresKeeper {K A : Type 0} (tells : Type 0) (calls counts : K → ℕ) (retries : ℕ) (old now : K) (result : Result A ApplyFault) : Type 0 where
  pub only : IsOfKeeper result
  pub clash : ClashShows result
  pub later : counts old ≤ counts now
  pub cause : ApplyCause retries (counts old) (counts now) 0 0 result
  pub tries : tells → TriesAtMost retries calls counts old now (kept_failures result)

-- the counts of a keeper and a tree have risen as the answer says, and a clash shows two byte strings of one name
pub record Fares {K T A : Type 0} (kept_tells files_tell : Type 0) (kept_calls kept_counts : K → ℕ) (file_calls file_counts : T → ℕ) (retries : ℕ) (keeper_old keeper : K) (tree_old tree : T) (result : Result A ApplyFault) : Type 0 where
  pub clash : ClashShows result
  pub kept_later : kept_counts keeper_old ≤ kept_counts keeper
  pub files_later : file_counts tree_old ≤ file_counts tree
  pub cause : ApplyCause retries (kept_counts keeper_old) (kept_counts keeper) (file_counts tree_old) (file_counts tree) result
  pub kept_tries : kept_tells → TriesAtMost retries kept_calls kept_counts keeper_old keeper (kept_failures result)
  pub file_tries : files_tell → TriesAtMost retries file_calls file_counts tree_old tree (file_failures result)

-- all changes were made, or a prefix of them and a fault came
abbrev pub Changes : {A : Type 0} → List Change → Filed → Filed → Result A ApplyFault → Type 0
Changes changes before after (Ok x) = after ≡ all_changed before changes
Changes changes before after (Err (faults.Refused refusal)) = ⊥
Changes changes before after (Err (faults.Reason reason)) = ⊥
Changes changes before after (Err (faults.Clash name found fresh)) = ⊥
Changes changes before after (Err faults.StoreFailed) = ⊥
Changes changes before after (Err faults.FileFailed) = ChangesPrefix changes before after
Changes changes before after (Err faults.Memory) = ChangesPrefix changes before after

-- ---- faults of lower crates

-- why an object was not stored
abbrev pub fault_of_store : StoreFault → ApplyFault
fault_of_store (stores.Clash name found fresh) = faults.Clash name found fresh
fault_of_store stores.Failed = faults.StoreFailed
fault_of_store stores.Memory = faults.Memory

-- why a source was not scanned
abbrev pub fault_of_scan : ScanFault → ApplyFault
fault_of_scan (scans.Refused refusal) = faults.Refused refusal
fault_of_scan scans.TooMany = faults.Reason TooMany
fault_of_scan scans.Failed = faults.FileFailed
fault_of_scan scans.Memory = faults.Memory

-- why a call of a tree failed
abbrev pub fault_of_tree : Trouble → ApplyFault
fault_of_tree troubles.Failed = faults.FileFailed
fault_of_tree troubles.Memory = faults.Memory
