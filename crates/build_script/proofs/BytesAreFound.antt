-- The bytes of files for tools, by what reading the files gives.
use Rattle.std.proofs.Common.{◌≡◌, ℕ, true, false, cond, List, [], ◌∷◌, length, drop, Option, Some, None, Result, Ok, Err, refl, sym, ap, ◌∙◌}
use Rattle.std.specs.Prelude.{Bool, nat_le}
use Rattle.object_name.specs.Name.{max_size}
use Rattle.object_name.specs.declared.trouble.Trouble.{Trouble}
use Rattle.object_name.specs.declared.trouble.Trouble.TheVariants as troubles
use Rattle.thunk_codec.specs.Placeholder.{placeholder_of}
use Rattle.file_tree.specs.Files.{Files, file_read}
use Rattle.file_tree.specs.declared.change.Change.{Change}
use Rattle.file_tree.specs.declared.refusal.FileRefusal.TheVariants.{NoFile}
use Rattle.file_tree.specs.declared.tree.FileRead.{FileRead}
use Rattle.file_tree.specs.declared.tree.FileRead.TheVariants as reads
use Rattle.include_scan.specs.Scanning.{StopsSo, Visiting}
use Rattle.include_scan.specs.declared.fault.ScanFault.{ScanFault}
use Rattle.include_scan.specs.declared.fault.ScanFault.TheVariants as scans
use Rattle.build_plan.specs.Doing.{Why, File, give, go_on, unless}
use Rattle.build_plan.specs.Way.{bytes_or, first_found, found_or, scanned_or, taken}
use Rattle.build_plan.specs.declared.plan.Step.TheVariants.{Take, Find}
use Rattle.build_script.specs.declared.run_fault.RunFault.{RunFault}
use Rattle.build_script.specs.AtOnce.{Ran, bytes_of, plain_bytes, read_bytes}
use Rattle.build_script.specs.WorkAtOnce.{Finds, Goes, IsStopped, Reads, Stops, by_cards, bytes_at_path, bytes_if_there, fault_of_scan, fault_of_tree, first_bytes, some_bytes, why_of}
use Rattle.build_script.proofs.JobsAdded.{goes-found, stops-found}

-- where the one stops, so does the other
pub stops-fault : {A B : Type 0} (wanted : Result A Why) (other : Result B Why) (stopped : Option Why) → ((why : Why) → wanted ≡ Err why → other ≡ Err why) → IsStopped wanted stopped → IsStopped other stopped
stops-fault wanted other None same h = tt
stops-fault wanted other (Some why) same h = same why h

pub finds-fault : {A B : Type 0} (wanted : Result A Why) (other : Result B Why) (fault : RunFault) → ((why : Why) → wanted ≡ Err why → other ≡ Err why) → Finds wanted (Err fault) → Finds other (Err fault)
finds-fault wanted other fault same h = stops-fault wanted other (why_of fault) same h

pub same_ok : {A : Type 0} (x y : A) → ◌≡◌ {A = Result A Why} (Ok x) (Ok y) → x ≡ y
same_ok x y e = cc e

-- a call of a tree that failed is no refusal
pub finds-tree : {A : Type 0} (wanted : Result A Why) (trouble : Trouble) → Finds wanted (Err (fault_of_tree trouble))
finds-tree wanted troubles.Failed = tt
finds-tree wanted troubles.Memory = tt

-- where reading stops, no work stops for a reason
pub finds-unread : {A B : Type 0} (x : A) (other : Result B Why) (fault : RunFault) → Finds (Ok x) (Err fault) → Finds other (Err fault)
finds-unread x other fault h = finds-fault (Ok x) other fault (λ why e. absurd cc) h

-- why scanning stops
pub finds-scan : (wanted : Visiting) (fault : ScanFault) → StopsSo wanted fault → Finds (scanned_or wanted) (Err (fault_of_scan fault))
finds-scan wanted (scans.Refused refusal) e = ap scanned_or e
finds-scan wanted scans.TooMany e = ap scanned_or e
finds-scan wanted scans.Failed e = tt
finds-scan wanted scans.Memory e = tt

-- ---- by what was read

pub of-bytes : (path : List ℕ) (read : FileRead) (bytes : List ℕ) → bytes_or path read ≡ Ok bytes → bytes_of path read ≡ plain_bytes path bytes (placeholder_of bytes)
of-bytes path reads.Absent bytes e = absurd cc
of-bytes path (reads.Bytes b) bytes e = ap (λ b. plain_bytes path b (placeholder_of b)) (same_ok b bytes e)
of-bytes path reads.TooLong bytes e = absurd cc

pub of-refused : (path : List ℕ) (read : FileRead) (why : Why) → bytes_or path read ≡ Err why → bytes_of path read ≡ Err why
of-refused path reads.Absent why e = cc e
of-refused path (reads.Bytes b) why e = absurd cc
of-refused path reads.TooLong why e = cc e

-- a file that is there has bytes or is refused
pub there-is : (path : List ℕ) (read : FileRead) → (read ≡ reads.Absent → ⊥) → bytes_if_there path read ≡ some_bytes (bytes_of path read)
there-is path reads.Absent h = absurd (h refl)
there-is path (reads.Bytes b) h = refl
there-is path reads.TooLong h = refl

-- ---- the first of some paths

pub by_size : (path : List ℕ) (bytes : List ℕ) (test : Bool) → bytes_if_there path (cond test (reads.Bytes bytes) reads.TooLong) ≡ some_bytes (bytes_of path (cond test (reads.Bytes bytes) reads.TooLong))
by_size path bytes true = refl
by_size path bytes false = refl

pub not_none : (x : Result (List ℕ) Why) → some_bytes x ≡ Ok None → ⊥
not_none (Ok bytes) e = cc e
not_none (Err why) e = cc e

pub is_found : (x : Result (List ℕ) Why) (bytes : List ℕ) → some_bytes x ≡ Ok (Some bytes) → x ≡ Ok bytes
is_found (Ok y) bytes e = ap (λ (y : List ℕ). Ok y) (by e)
  where
    by : ◌≡◌ {A = Result (Option (List ℕ)) Why} (Ok (Some y)) (Ok (Some bytes)) → y ≡ bytes
    by e = cc e
is_found (Err why) bytes e = absurd cc

pub is_refused : (x : Result (List ℕ) Why) (why : Why) → some_bytes x ≡ Err why → x ≡ Err why
is_refused (Ok y) why e = absurd cc
is_refused (Err w) why e = ap (λ (w : Why). Err w) (by e)
  where
    by : ◌≡◌ {A = Result (Option (List ℕ)) Why} (Err w) (Err why) → w ≡ why
    by e = cc e

module _ (files : Files) (missing place : List ℕ) (places : List (List ℕ)) where
  -- by what stands at the first
  abbrev first-by : Option (List ℕ) → Option (List ℕ)
  first-by found = elim found [ Some bytes ↦ Some place | None ↦ first_found files places ]

  first-is : first_found files (place ∷ places) ≡ first-by (files place)
  unfolding first_found
  first-is = refl

  -- where nothing is there, what is found is found among the others
  passes : (found : Option (List ℕ)) → files place ≡ found → bytes_if_there place (file_read found) ≡ Ok None → first_bytes files missing (place ∷ places) ≡ first_bytes files missing places
  passes None is e = ap (λ found. bytes_at_path files (found_or missing found)) (first-is ∙ ap first-by is)
  passes (Some bytes) is e = absurd (not_none _ (sym (by_size place bytes (nat_le (length bytes) max_size)) ∙ e))

  -- where something is there, it is found
  finds : (found : Option (List ℕ)) → files place ≡ found → (bytes_if_there place (file_read found) ≡ Ok None → ⊥) → some_bytes (first_bytes files missing (place ∷ places)) ≡ bytes_if_there place (file_read found)
  finds None is e = absurd (e refl)
  finds (Some bytes) is e =
      ap (λ found. some_bytes (bytes_at_path files (found_or missing found))) (first-is ∙ ap first-by is)
      ∙ ap (λ found. some_bytes (bytes_of place (file_read found))) is
      ∙ sym (by_size place bytes (nat_le (length bytes) max_size))

  pub first-passes : bytes_if_there place (file_read (files place)) ≡ Ok None → first_bytes files missing (place ∷ places) ≡ first_bytes files missing places
  first-passes = passes (files place) refl

  pub first-found : (bytes : List ℕ) → bytes_if_there place (file_read (files place)) ≡ Ok (Some bytes) → first_bytes files missing (place ∷ places) ≡ Ok bytes
  first-found bytes e = is_found _ bytes (finds (files place) refl (λ none. cc (sym none ∙ e)) ∙ e)

  pub first-refused : (why : Why) → bytes_if_there place (file_read (files place)) ≡ Err why → first_bytes files missing (place ∷ places) ≡ Err why
  first-refused why e = is_refused _ why (finds (files place) refl (λ none. cc (sym none ∙ e)) ∙ e)

-- no path is left
pub first-none : (files : Files) (missing : List ℕ) → first_bytes files missing [] ≡ Err (File (NoFile missing))
unfolding first_found
first-none files missing = refl

-- none of the first paths is there, and a tree was read
pub record HasPassed {T : Type 0} (tells : Type 0) (files : T → Files) (changes : T → List Change) (calls counts : T → ℕ) (retries : ℕ) (missing : List ℕ) (places : List (List ℕ)) (old now : T) (i : ℕ) : Type 0 where
  pub left : tells → first_bytes (files old) missing places ≡ first_bytes (files old) missing (drop i places)
  pub reads : Reads tells files changes calls counts retries old now 0

-- ---- work that reads

module _ (files : Files) where
  pub goes-read : (path : List ℕ) (r : Result (List ℕ) RunFault) → Finds (bytes_of path (file_read (files path))) r → Goes (read_bytes path) files r
  goes-read path r found = goes-found (read_bytes path) (bytes_of path (file_read (files path))) files r (λ w at. ap (λ (files : Files). unless (bytes_of path (file_read (files path))) w) at) found

  pub stops-read : (path : List ℕ) (why : Option Why) → IsStopped (bytes_of path (file_read (files path))) why → Stops (read_bytes path) files why
  stops-read path why found = stops-found (read_bytes path) (bytes_of path (file_read (files path))) files why (λ w at. ap (λ (files : Files). unless (bytes_of path (file_read (files path))) w) at) found

  given : (wanted : Result (List ℕ) Why) (w : Ran) → go_on (unless wanted w) (λ bytes. give bytes) ≡ unless wanted w
  given (Ok bytes) w = refl
  given (Err why) w = refl

  pub goes-take : (items : List (List ℕ)) (path : List ℕ) (r : Result (List ℕ) RunFault) → Finds (bytes_or path (file_read (files path))) r → Goes (taken by_cards items (Take path)) files r
  goes-take items path r found =
      goes-found (taken by_cards items (Take path)) (bytes_or path (file_read (files path))) files r
      (λ w at. given (bytes_or path (file_read (w.files path))) w ∙ ap (λ (files : Files). unless (bytes_or path (file_read (files path))) w) at) found

  first-by_path : (wanted : Result (List ℕ) Why) (w : Ran) → go_on (unless wanted w) (λ path. read_bytes path) ≡ unless (bytes_at_path w.files wanted) w
  first-by_path (Ok path) w = refl
  first-by_path (Err why) w = refl

  pub goes-find : (items : List (List ℕ)) (missing : List ℕ) (places : List (List ℕ)) (r : Result (List ℕ) RunFault) → Finds (first_bytes files missing places) r → Goes (taken by_cards items (Find missing places)) files r
  goes-find items missing places r found =
      goes-found (taken by_cards items (Find missing places)) (first_bytes files missing places) files r
      (λ w at. first-by_path (found_or missing (first_found w.files places)) w ∙ ap (λ (files : Files). unless (first_bytes files missing places) w) at) found
