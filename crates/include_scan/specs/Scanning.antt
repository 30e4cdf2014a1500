-- How the scanned files are found: file by file, in the order of the first visit, each file's include lines in order. The first
-- refusal that comes is the answer.
use Rattle.std.specs.Prelude.{◌≡◌, ℕ, zero, suc, ◌+◌, List, [], ◌∷◌, ◌++◌, drop, length, nat_lt, true, Option, Some, None, Result, Ok, Err, if◌then◌else◌}
use Rattle.std.specs.Option.{is_some}
use Rattle.object_name.specs.Causes.{RoseBy}
use Rattle.thunk_codec.specs.Placeholder.{placeholder_of}
use Rattle.thunk_codec.specs.Sorted.{sorted_paths}
use Rattle.thunk_codec.specs.Thunk.{is_strictly_increasing}
use Rattle.thunk_codec.specs.Files.{Files}
use Rattle.file_tree.specs.Files.{file_read}
use Rattle.file_tree.specs.declared.refusal.FileRefusal.{FileRefusal}
use Rattle.file_tree.specs.declared.refusal.FileRefusal.TheVariants as refusals
use Rattle.file_tree.specs.declared.tree.FileRead.{FileRead}
use Rattle.file_tree.specs.declared.tree.FileRead.TheVariants as reads
use Rattle.text_lines.specs.Lines.{lines_of}
use Rattle.tool_text.specs.Directive.{directive_of}
use Rattle.tool_text.specs.IncludeLine.{IncludeForm, Other, Includes, Computed, include_of}
use Rattle.tool_text.specs.Including.{candidates, first_there}
use Rattle.tool_text.specs.Trying.{◌>>=◌}
use Rattle.include_scan.specs.declared.fault.ScanFault.{ScanFault}
use Rattle.include_scan.specs.declared.fault.ScanFault.TheVariants.{Refused, TooMany, Failed, Memory}
use Rattle.text_lines.specs.Among.{is_among}
use Rattle.include_scan.specs.Scanned.{bytes_at}

-- the greatest number of files
abbrev pub max_files : ℕ
max_files = 4096

-- the files that were visited, in the order of visits, or a refusal
abbrev pub Visiting : Type 0
Visiting = Result (List (List ℕ)) ScanFault

-- the refusal of a file by what reading it gives, if it has one: it isn't there, is over the size of an object, or is a placeholder
abbrev pub refusal_of_read : List ℕ → FileRead → Option FileRefusal
refusal_of_read path reads.Absent = Some (refusals.NoFile path)
refusal_of_read path reads.TooLong = Some (refusals.TooLong path)
refusal_of_read path (reads.Bytes bytes) = if is_some (placeholder_of bytes) then Some (refusals.Generated path) else None

-- the refusal of a file, if it has one
abbrev pub refusal_of : List ℕ → Option (List ℕ) → Option FileRefusal
refusal_of path file = refusal_of_read path (file_read file)

-- one more file at the end, unless it is refused
abbrev pub unless_refused : Option FileRefusal → List (List ℕ) → Visiting
unless_refused (Some refusal) visited = Err (Refused refusal)
unless_refused None visited = Ok visited

-- a file visited: one that is new is looked at, and there are at most 4,096
unfoldable pub visit_file : Files → List ℕ → List (List ℕ) → Visiting
visit_file files path visited =
    if is_among visited path then Ok visited
    else if nat_lt (length visited) max_files then unless_refused (refusal_of path (files path)) (visited ++ path ∷ [])
    else Err TooMany

-- the file that an include line goes into, if there is one
abbrev pub visit_found : Files → Option (List ℕ) → List (List ℕ) → Visiting
visit_found files None visited = Ok visited
visit_found files (Some path) visited = visit_file files path visited

-- a line of a file, by its number and what it says of another file
abbrev pub after_form : Files → List (List ℕ) → List ℕ → ℕ → IncludeForm → List (List ℕ) → Visiting
after_form files folders path number Other visited = Ok visited
after_form files folders path number (Includes target) visited = visit_found files (first_there files (candidates folders path target)) visited
after_form files folders path number Computed visited = Err (Refused (refusals.Computed path number))

-- the lines of a file from one of a number on
abbrev pub after_lines : Files → List (List ℕ) → List ℕ → ℕ → List (List ℕ) → List (List ℕ) → Visiting
after_lines files folders path number [] visited = Ok visited
after_lines files folders path number (line ∷ lines) visited =
    after_form files folders path number (include_of (directive_of line)) visited >>= λ now. after_lines files folders path (number + 1) lines now

-- a whole file; its lines are numbered from 1
abbrev pub after_file : Files → List (List ℕ) → List ℕ → List (List ℕ) → Visiting
after_file files folders path visited = after_lines files folders path 1 (lines_of (bytes_at files path)) visited

-- the first of some files, if there is one
abbrev pub after_first : Files → List (List ℕ) → List (List ℕ) → List (List ℕ) → Visiting
after_first files folders [] visited = Ok visited
after_first files folders (path ∷ others) visited = after_file files folders path visited

-- so many of the files that were visited, from one of them on, and those that their lines visit
abbrev pub gathered : Files → List (List ℕ) → ℕ → ℕ → List (List ℕ) → Visiting
gathered files folders zero index visited = Ok visited
gathered files folders (suc more) index visited = after_first files folders (drop index visited) visited >>= λ now. gathered files folders more (index + 1) now

-- the files of a source, in the order of the first visit, or the first refusal
unfoldable pub scan_of : Files → List (List ℕ) → List ℕ → Visiting
scan_of files folders source = visit_file files source [] >>= λ visited. gathered files folders max_files 0 visited

-- the files of a source in path order, or the first refusal
abbrev pub scanned_paths : Files → List (List ℕ) → List ℕ → Visiting
scanned_paths files folders source = scan_of files folders source >>= λ visited. Ok (sorted_paths visited)

-- the same paths, each once, each before the next byte by byte
pub record IsInOrder (visited : List (List ℕ)) (paths : List (List ℕ)) : Type 0 where
  pub same : (path : List ℕ) → is_among paths path ≡ is_among visited path
  pub rising : is_strictly_increasing paths ≡ true

-- scanning stops for a refusal only where this answer is that refusal; it may always stop where a call failed or memory was refused
abbrev pub StopsSo : Visiting → ScanFault → Type 0
StopsSo wanted (Refused refusal) = wanted ≡ Err (Refused refusal)
StopsSo wanted TooMany = wanted ≡ Err TooMany
StopsSo wanted Failed = Unit {0}
StopsSo wanted Memory = Unit {0}

-- the answer is this one with its paths in order, unless scanning stops
abbrev pub Scans : Visiting → Visiting → Type 0
Scans wanted (Ok paths) = (visited : List (List ℕ)) × ((wanted ≡ Ok visited) × IsInOrder visited paths)
Scans wanted (Err fault) = StopsSo wanted fault

-- the answer is this one, unless scanning stops
abbrev pub ScansTo : Visiting → Visiting → Type 0
ScansTo wanted (Ok paths) = wanted ≡ Ok paths
ScansTo wanted (Err fault) = StopsSo wanted fault

-- a fault is answered only where the tree's count rose by more than the retries
abbrev pub ScanCause : {X : Type 0} → ℕ → ℕ → ℕ → Result X ScanFault → Type 0
ScanCause retries before after (Ok x) = Unit {0}
ScanCause retries before after (Err (Refused refusal)) = Unit {0}
ScanCause retries before after (Err TooMany) = Unit {0}
ScanCause retries before after (Err Failed) = RoseBy retries before after
ScanCause retries before after (Err Memory) = Unit {0}

-- how many failures of the tree the answer is
abbrev pub scan_failures : {X : Type 0} → Result X ScanFault → ℕ
scan_failures (Ok x) = 0
scan_failures (Err (Refused refusal)) = 0
scan_failures (Err TooMany) = 0
scan_failures (Err Failed) = 1
scan_failures (Err Memory) = 0
