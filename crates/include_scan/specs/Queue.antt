-- The files that were visited and those of them that wait, and how each step of scanning leaves them.
use Rattle.std.specs.Prelude.{◌≡◌, ◌≤◌, ℕ, ◌+◌, List, ◌∷◌, drop, length, false, Option, Some, None, Result, Ok, Err, IsTrue, OnOk}
use Rattle.object_name.specs.Name.{max_size}
use Rattle.object_name.specs.declared.trouble.Trouble.{Trouble}
use Rattle.object_name.specs.declared.trouble.Trouble.TheVariants as troubles
use Rattle.thunk_codec.specs.Files.{Files}
use Rattle.file_tree.specs.Files.{file_read}
use Rattle.file_tree.specs.declared.refusal.FileRefusal.TheVariants as refusals
use Rattle.file_tree.specs.declared.tree.FileRead.{FileRead}
use Rattle.file_tree.specs.declared.tree.FileRead.TheVariants as reads
use Rattle.tool_text.specs.IncludeLine.{IncludeForm, Other, Includes, Computed}
use Rattle.tool_text.specs.Seen.{target_seen}
use Rattle.tool_text.specs.declared.directive.Target.{Target}
use Rattle.include_scan.specs.declared.fault.ScanFault.{ScanFault}
use Rattle.include_scan.specs.declared.fault.ScanFault.TheVariants.{Refused, TooMany, Failed, Memory}
use Rattle.include_scan.specs.declared.found.Found.{Found}
use Rattle.include_scan.specs.declared.found.Found.TheVariants as founds
use Rattle.include_scan.specs.declared.queue.Queue.{Queue}
use Rattle.text_lines.specs.Among.{is_among}
use Rattle.include_scan.specs.Scanned.{bytes_at, inputs_of}
use Rattle.include_scan.specs.Scanning.{StopsSo, Visiting, refusal_of, refusal_of_read}

-- what scanning answers where the tree is in trouble
abbrev pub fault_of : Trouble → ScanFault
fault_of troubles.Failed = Failed
fault_of troubles.Memory = Memory

-- none of the files is refused
abbrev pub NoneRefused : Files → List (List ℕ) → Type 0
NoneRefused files visited = (path : List ℕ) → IsTrue (is_among visited path) → refusal_of path (files path) ≡ None

-- the files that were visited wait with their bytes, from one of them on, and none of them is refused
pub record Waits (files : Files) (index : ℕ) (queue : Queue) : Type 0 where
  pub within : index ≤ length queue.visited.keys
  pub waiting : queue.waiting.items ≡ inputs_of files (drop index queue.visited.keys)
  pub fine : NoneRefused files queue.visited.keys

-- what was visited is this, unless scanning stops
abbrev pub Leaves : Visiting → List (List ℕ) → Result (Unit {0}) ScanFault → Type 0
Leaves wanted visited (Ok _) = wanted ≡ Ok visited
Leaves wanted visited (Err fault) = StopsSo wanted fault

-- and the files that were visited wait
abbrev pub Visits : Files → ℕ → Queue → Visiting → Result (Unit {0}) ScanFault → Type 0
Visits files index queue wanted result = Leaves wanted queue.visited.keys result × OnOk result (Waits files index queue)

-- what was read has these bytes and isn't refused, or this refusal, unless memory was refused
abbrev pub Judges : List ℕ → FileRead → Result (List ℕ) ScanFault → Type 0
Judges path read (Ok bytes) = (refusal_of_read path read ≡ None) × (read ≡ reads.Bytes bytes)
Judges path read (Err (Refused refusal)) = refusal_of_read path read ≡ Some refusal
Judges path read (Err TooMany) = ⊥
Judges path read (Err Failed) = ⊥
Judges path read (Err Memory) = Unit {0}

-- a file that was found was visited, or is new and has been read
abbrev pub IsFound : Files → List (List ℕ) → Option (List ℕ) → Found → Type 0
IsFound files visited wanted founds.Nowhere = wanted ≡ None
IsFound files visited wanted founds.Visited = (path : List ℕ) × ((wanted ≡ Some path) × IsTrue (is_among visited path))
IsFound files visited wanted (founds.New path read) = (wanted ≡ Some path) × ((is_among visited path ≡ false) × (read ≡ file_read (files path)))

-- the file that a line asks for, or its refusal where its form says none, unless memory was refused
abbrev pub Asks : List ℕ → ℕ → IncludeForm → Result (Option Target) ScanFault → Type 0
Asks path number form (Ok None) = form ≡ Other
Asks path number form (Ok (Some target)) = form ≡ Includes (target_seen target)
Asks path number form (Err (Refused refusal)) = (form ≡ Computed) × (refusal ≡ refusals.Computed path number)
Asks path number form (Err TooMany) = ⊥
Asks path number form (Err Failed) = ⊥
Asks path number form (Err Memory) = Unit {0}

-- the next of the files that wait, if there is one
abbrev pub IsNext : Files → ℕ → Queue → Queue → Option (List ℕ × List ℕ) → Type 0
IsNext files index old new None = length old.visited.keys ≤ index
IsNext files index old new (Some file) = (drop index old.visited.keys ≡ file.0 ∷ drop (index + 1) old.visited.keys)
    × ((file.1 ≡ bytes_at files file.0) × ((length file.1 ≤ max_size) × Waits files (index + 1) new))
