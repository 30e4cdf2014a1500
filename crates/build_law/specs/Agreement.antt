-- The law on builds: inferring a build and forcing all placeholders that it leaves gives the tree that the build at once leaves.
use Rattle.std.specs.Prelude.{◌≡◌, ◌≤◌, ◌⊎◌, ℕ, List, [], ◌∷◌, map, Option, Some, None, IsSome, Ok}
use Rattle.std.specs.List.{AllByRecursion}
use Rattle.object_name.specs.Name.{ObjectName}
use Rattle.thunk_codec.specs.declared.job.Job.{Job}
use Rattle.thunk_codec.specs.declared.job.Outcome.{Outcome}
use Rattle.thunk_codec.specs.declared.reference.Ref.{Ref}
use Rattle.thunk_codec.specs.Outcome.{Fits}
use Rattle.thunk_codec.specs.Placeholder.{placeholder_of}
use Rattle.blob_store.specs.Store.{Store, Contents, held}
use Rattle.file_tree.specs.Files.{Files, changed}
use Rattle.file_tree.specs.Wanted.{wanted_of, repeated_item}
use Rattle.file_tree.specs.declared.change.Change.{Change}
use Rattle.file_tree.specs.declared.change.Change.TheVariants.{Written}
use Rattle.file_tree.specs.declared.item.Item.{Item}
use Rattle.file_tree.specs.declared.item.Item.TheVariants.{File}
use Rattle.need_eval.specs.Eval.{State, start}
use Rattle.need_eval.specs.Eval.Ended.{Got as Valued}
use Rattle.need_eval.specs.Evaluation.{values_of, by_function}
use Rattle.build_plan.specs.declared.plan.Plan.{Plan}
use Rattle.build_plan.specs.declared.plan.Scanning.{Scanning}
use Rattle.build_plan.specs.Doing.{Got}
use Rattle.build_plan.specs.Symbolic.{Work}
use Rattle.build_script.specs.AtOnce.{Ran}
use Rattle.build_script.specs.Builds.{inferred, built_at_once}
use Rattle.build_law.specs.Denoted.{NotesAreTrue}
use Rattle.build_law.specs.Jobs.{HaveNoClash, AreWithin}
use Rattle.build_law.specs.Suiting.{Suits}

-- a path is one of some
abbrev pub IsOneOf : List ℕ → List (List ℕ) → Type 0
IsOneOf path [] = ⊥
IsOneOf path (first ∷ others) = (first ≡ path) ⊎ IsOneOf path others

-- there is a file, and it is a placeholder
abbrev pub IsPlaceholderFile : Option (List ℕ) → Type 0
IsPlaceholderFile None = ⊥
IsPlaceholderFile (Some bytes) = IsSome (placeholder_of bytes)

-- the file at a path gets these bytes, if there are some, and then some changes are made
abbrev pub file_then : List ℕ → Option (List ℕ) → List Change → List Change
file_then path None behind = []
file_then path (Some bytes) behind = Written path bytes ∷ behind

-- each path gets the bytes of its value
abbrev pub filed : Contents → List (List ℕ) → List ObjectName → List Change
filed objects [] names = []
filed objects (path ∷ paths) [] = []
filed objects (path ∷ paths) (name ∷ names) = file_then path (held objects name) (filed objects paths names)

-- the files at some paths, as items
abbrev pub file_items : List (List ℕ) → List Item
file_items paths = map (λ path. File path) paths

-- inferring a build succeeds, and so does building at once, and the paths are those of all placeholders that the first leaves
pub record Builds (outcome : Job → Outcome) (whole : Files → Scanning → Outcome) (plans : List Plan) (store : Store) (files : Files)
    (budget : ℕ) (work : Work) (ran : Ran) (paths : List (List ℕ)) : Type 0 where
  -- both succeed
  pub symbolic : inferred plans store files ≡ Got tt work
  pub once : built_at_once outcome whole plans files ≡ Got tt ran
  -- the tree has no placeholder at the start
  pub no_placeholder : (path : List ℕ) → IsPlaceholderFile (files path) → ⊥
  -- the notes at the start are true for each job to which forcing comes
  pub true_notes : (refs : List Ref) → wanted_of work.files (file_items paths) ≡ Ok refs → NotesAreTrue outcome store work.store.objects refs
  -- no two objects that are met have one name, and no job is over the limit
  pub no_clash : HaveNoClash outcome work.store ran.jobs
  pub within : AreWithin ran.jobs
  -- each placeholder has one path, and each path is a placeholder's
  pub distinct : repeated_item (file_items paths) ≡ None
  pub each : AllByRecursion (λ path. IsPlaceholderFile (work.files path)) paths
  pub all : (path : List ℕ) → IsPlaceholderFile (work.files path) → IsOneOf path paths
  -- there is a step for each thunk that was made
  pub enough : work.thunks ≤ budget

-- forcing the files at some paths gives them values, and with these the tree is that of the build at once
pub record Forces (outcome : Job → Outcome) (budget : ℕ) (work : Work) (ran : Ran) (paths : List (List ℕ)) : Type 0 where
  pub refs : List Ref
  pub names : List ObjectName
  pub last : State
  pub wanted : wanted_of work.files (file_items paths) ≡ Ok refs
  pub values : values_of (by_function outcome) budget refs (start work.store) ≡ Valued names last
  pub files : changed work.files (filed last.store.objects paths names) ≡ ran.files

-- where each job fits its outcome, and each plan suits what tools give
abbrev pub BuildAgrees : (Job → Outcome) → Type 0
BuildAgrees outcome = ((job : Job) → Fits job (outcome job))
    → (whole : Files → Scanning → Outcome) (plans : List Plan) → AllByRecursion (Suits outcome whole) plans
    → (store : Store) (files : Files) (budget : ℕ) (work : Work) (ran : Ran) (paths : List (List ℕ))
    → Builds outcome whole plans store files budget work ran paths → Forces outcome budget work ran paths
