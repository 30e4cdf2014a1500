-- What a call that applies a plan or a recipe has done: all that the definition says, or a prefix of it and a fault.
use Rattle.std.specs.Prelude.{◌≡◌, ◌⊎◌, ℕ, Result, Ok, Err}
use Rattle.object_name.specs.Causes.{RoseBy}
use Rattle.blob_store.specs.Keeping.{Kept, HaveOneName, WritesPrefix, all_written}
use Rattle.file_tree.specs.Files.{Filed, ChangesPrefix, all_changed}
use Rattle.file_tree.specs.declared.model_fault.ApplyFault.{ApplyFault}
use Rattle.file_tree.specs.declared.model_fault.ApplyFault.TheVariants as faults
use Rattle.build_plan.specs.Doing.{Why, File, Unmodelled, Clash, Ended, Got, Stopped, state_after}
use Rattle.build_plan.specs.Symbolic.{Work}

-- what a keeper and a tree tell, before a call and after it
pub record Sides : Type 0 where
  pub kept_before : Kept
  pub kept_after : Kept
  pub files_before : Filed
  pub files_after : Filed

-- the same, by what is read of each
abbrev pub sides : {K T : Type 0} → (K → Kept) → (T → Filed) → K → K → T → T → Sides
sides kept filed keeper keeper_after tree tree_after = record {
  kept_before = kept keeper;
  kept_after = kept keeper_after;
  files_before = filed tree;
  files_after = filed tree_after;
}

-- all writes and changes of the work were made, each once and in order
pub record MakesAll (work : Work) (s : Sides) : Type 0 where
  pub kept : s.kept_after ≡ all_written s.kept_before work.writes
  pub files : s.files_after ≡ all_changed s.files_before work.changes

-- a prefix of the writes was made, and no file was changed
pub record MakesWrites (work : Work) (s : Sides) : Type 0 where
  pub kept : WritesPrefix work.writes s.kept_before s.kept_after
  pub files : s.files_after ≡ s.files_before

-- all writes were made, and a prefix of the changes
pub record MakesChanges (work : Work) (s : Sides) : Type 0 where
  pub kept : s.kept_after ≡ all_written s.kept_before work.writes
  pub files : ChangesPrefix work.changes s.files_before s.files_after

-- a prefix of all that the work does was made, first the writes and then the changes
abbrev pub MakesPrefix : Work → Sides → Type 0
MakesPrefix work s = MakesWrites work s ⊎ MakesChanges work s

-- the work gives this, and all of it is made
pub record Gives {A : Type 0} (e : Ended Work A) (x : A) (s : Sides) : Type 0 where
  pub last : Work
  pub got : e ≡ Got x last
  pub all : MakesAll last s

-- the work stops so: what it had written by then is made, and no file is changed
pub record StopsFor {A : Type 0} (e : Ended Work A) (why : Why) (s : Sides) : Type 0 where
  pub last : Work
  pub stopped : e ≡ Stopped why last
  pub all : MakesAll last s
  pub unchanged : s.files_after ≡ s.files_before

-- what a call did, by its answer
abbrev pub Does : {A : Type 0} → Ended Work A → Sides → Result A ApplyFault → Type 0
Does e s (Ok x) = Gives e x s
Does e s (Err (faults.Refused refusal)) = StopsFor e (File refusal) s
Does e s (Err (faults.Reason reason)) = StopsFor e (Unmodelled reason) s
Does e s (Err (faults.Clash name found fresh)) = StopsFor e (Clash name found fresh) s
Does e s (Err faults.StoreFailed) = MakesPrefix (state_after e) s
Does e s (Err faults.FileFailed) = MakesPrefix (state_after e) s
Does e s (Err faults.Memory) = MakesPrefix (state_after e) s

-- faults come only where a count rose by more than the retries: the keeper's or the tree's
abbrev pub ApplyCause : {A : Type 0} → ℕ → ℕ → ℕ → ℕ → ℕ → Result A ApplyFault → Type 0
ApplyCause retries kept_before kept_after files_before files_after (Ok x) = Unit {0}
ApplyCause retries kept_before kept_after files_before files_after (Err (faults.Refused refusal)) = Unit {0}
ApplyCause retries kept_before kept_after files_before files_after (Err (faults.Reason reason)) = Unit {0}
ApplyCause retries kept_before kept_after files_before files_after (Err (faults.Clash name found fresh)) = Unit {0}
ApplyCause retries kept_before kept_after files_before files_after (Err faults.StoreFailed) = RoseBy retries kept_before kept_after
ApplyCause retries kept_before kept_after files_before files_after (Err faults.FileFailed) = RoseBy retries files_before files_after
ApplyCause retries kept_before kept_after files_before files_after (Err faults.Memory) = Unit {0}

-- a clash shows two byte strings that differ and have one name
abbrev pub ClashShows : {A : Type 0} → Result A ApplyFault → Type 0
ClashShows (Ok x) = Unit {0}
ClashShows (Err (faults.Refused refusal)) = Unit {0}
ClashShows (Err (faults.Reason reason)) = Unit {0}
ClashShows (Err (faults.Clash name found fresh)) = HaveOneName name found fresh
ClashShows (Err faults.StoreFailed) = Unit {0}
ClashShows (Err faults.FileFailed) = Unit {0}
ClashShows (Err faults.Memory) = Unit {0}

-- how many failures of the keeper an answer is
abbrev pub kept_failures : {A : Type 0} → Result A ApplyFault → ℕ
kept_failures (Ok x) = 0
kept_failures (Err (faults.Refused refusal)) = 0
kept_failures (Err (faults.Reason reason)) = 0
kept_failures (Err (faults.Clash name found fresh)) = 0
kept_failures (Err faults.StoreFailed) = 1
kept_failures (Err faults.FileFailed) = 0
kept_failures (Err faults.Memory) = 0

-- how many failures of the tree it is
abbrev pub file_failures : {A : Type 0} → Result A ApplyFault → ℕ
file_failures (Ok x) = 0
file_failures (Err (faults.Refused refusal)) = 0
file_failures (Err (faults.Reason reason)) = 0
file_failures (Err (faults.Clash name found fresh)) = 0
file_failures (Err faults.StoreFailed) = 0
file_failures (Err faults.FileFailed) = 1
file_failures (Err faults.Memory) = 0
