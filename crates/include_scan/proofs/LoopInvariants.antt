-- How far a loop of scanning is.
use Rattle.std.proofs.Common.{◌≡◌, ◌≤◌, ◌+◌, ◌-◌, ◌*◌, ℕ, List, Option, length}
use Rattle.object_name.specs.Name.{max_size}
use Rattle.thunk_codec.specs.Files.{Files}
use Rattle.file_tree.specs.declared.change.Change.{Change}
use Rattle.object_name.specs.Causes.{TriesAtMost}
use Rattle.text_lines.specs.Lines.{lines_of}
use Rattle.tool_text.specs.Including.{first_there}
use Rattle.include_scan.specs.declared.queue.Queue.{Queue}
use Rattle.include_scan.specs.Scanning.{after_lines, gathered, max_files}
use Rattle.include_scan.specs.Queue.{NoneRefused, Waits}

module _ {T : Type 0} (tells : Type 0) (files : T → Files) (changes : T → List Change) (faults calls : T → ℕ) (n : ℕ) (old now : T) where
  -- the tree has the same files and changes, its count of faults hasn't fallen, and its calls were tried again n times at most
  pub record Keeps : Type 0 where
    pub same : tells → files now ≡ files old
    pub list : tells → changes now ≡ changes old
    pub later : faults old ≤ faults now
    pub tried : tells → TriesAtMost n calls faults old now 0

  -- the first of the candidates that are left is that of all, and the count has risen by no more than n for each of the others
  pub record LookingSoFar (visited : List (List ℕ)) (all rest : List (Option (List ℕ))) : Type 0 where
    pub first : tells → NoneRefused (files old) visited → first_there (files old) rest ≡ first_there (files old) all
    pub most : faults now + length rest * n ≤ faults old + length all * n
    pub keeps : Keeps

  -- the lines that are left meet what all lines meet
  pub record LinesSoFar (folders : List (List ℕ)) (path bytes : List ℕ) (before queue : Queue) (number : ℕ) (rest : List ℕ) : Type 0 where
    pub so_far : tells → (index : ℕ) → Waits (files old) index before → length bytes ≤ max_size
        → (after_lines (files old) folders path number (lines_of rest) queue.visited.keys ≡ after_lines (files old) folders path 1 (lines_of bytes) before.visited.keys) × Waits (files old) index queue
    pub counted : number + length rest ≤ 1 + length bytes
    pub few : length before.visited.keys ≤ max_files → length queue.visited.keys ≤ max_files
    pub keeps : Keeps

  -- the files that wait meet what all files meet
  pub record GatheringSoFar (folders : List (List ℕ)) (before queue : Queue) (index : ℕ) : Type 0 where
    pub so_far : tells → Waits (files old) 0 before
        → (gathered (files old) folders (4096 - index) index queue.visited.keys ≡ gathered (files old) folders 4096 0 before.visited.keys) × Waits (files old) index queue
    pub few : length before.visited.keys ≤ max_files → length queue.visited.keys ≤ max_files
    pub keeps : Keeps
