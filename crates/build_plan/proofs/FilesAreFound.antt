-- What files are gathered as, by what reading them gives.
use Rattle.std.proofs.Common.{◌≡◌, ◌<◌, ◌≤◌, ◌+◌, add-one, arith, ℕ, true, false, cond, List, [], ◌∷◌, length, drop, get_or, Option, Some, None, Result, Ok, Err, refl, sym, ap, ◌∙◌}
use Rattle.std.proofs.Math.Seq.{drop-cons, drop-length}
use Rattle.std.specs.Prelude.{Bool, nat_le}
use Rattle.object_name.specs.Name.{max_size}
use Rattle.object_name.specs.declared.trouble.Trouble.{Trouble}
use Rattle.object_name.specs.declared.trouble.Trouble.TheVariants as troubles
use Rattle.thunk_codec.specs.Placeholder.{placeholder_of}
use Rattle.file_tree.specs.Files.{Files, Filed, file_read}
use Rattle.file_tree.specs.declared.change.Change.{Change}
use Rattle.file_tree.specs.declared.model_fault.ApplyFault.{ApplyFault}
use Rattle.file_tree.specs.declared.model_fault.ApplyFault.TheVariants as faults
use Rattle.file_tree.specs.declared.refusal.FileRefusal.TheVariants.{NoFile}
use Rattle.file_tree.specs.declared.tree.FileRead.{FileRead}
use Rattle.file_tree.specs.declared.tree.FileRead.TheVariants as reads
use Rattle.build_plan.specs.declared.gathered.Gathered.{Gathered}
use Rattle.build_plan.specs.declared.gathered.Gathered.TheVariants.{Plain}
use Rattle.build_plan.specs.Doing.{Why, give, go_on, unless}
use Rattle.build_plan.specs.Doing.Why.{File as Refused}
use Rattle.build_plan.specs.Gathered.{item_of, item_of_bytes}
use Rattle.build_plan.specs.Way.{bytes_or, first_found, found_or, taken}
use Rattle.build_plan.specs.Symbolic.{Work, item_or, read_item, symbolic}
use Rattle.blob_store.specs.Keeping.{Kept}
use Rattle.build_plan.specs.declared.plan.Step.TheVariants.{Take, Find}
use Rattle.build_plan.proofs.WritesGrow.{grows-read_item, grows-taken}
use Rattle.build_plan.proofs.WorkGoesOn.{goes-found}
use Rattle.build_plan.specs.StepContracts.{between, Goes, fault_of_tree, Finds, ReadsFiles, first_item, item_at_path, item_if_there, plain_or, some_item}

-- where the one stops, so does the other
pub finds-fault : {A B : Type 0} (wanted : Result A Why) (other : Result B Why) (fault : ApplyFault) → ((why : Why) → wanted ≡ Err why → other ≡ Err why) → Finds wanted (Err fault) → Finds other (Err fault)
finds-fault wanted other (faults.Refused refusal) same h = same _ h
finds-fault wanted other (faults.Reason reason) same h = same _ h
finds-fault wanted other (faults.Clash name found fresh) same h = h
finds-fault wanted other faults.StoreFailed same h = h
finds-fault wanted other faults.FileFailed same h = h
finds-fault wanted other faults.Memory same h = h

pub same_ok : {A : Type 0} (x y : A) → ◌≡◌ {A = Result A Why} (Ok x) (Ok y) → x ≡ y
same_ok x y e = cc e

-- a call of a tree that failed is no refusal
pub finds-tree : (A : Type 0) (wanted : Result A Why) (trouble : Trouble) → Finds wanted (Err (fault_of_tree trouble))
finds-tree A wanted troubles.Failed = tt
finds-tree A wanted troubles.Memory = tt

-- where reading stops, no work stops for a reason
pub finds-unread : {A B : Type 0} (x : A) (other : Result B Why) (fault : ApplyFault) → Finds (Ok x) (Err fault) → Finds other (Err fault)
finds-unread x other fault h = finds-fault (Ok x) other fault (λ why e. absurd cc) h

-- ---- by what was read

pub item-by_bytes : (path : List ℕ) (read : FileRead) (bytes : List ℕ) → bytes_or path read ≡ Ok bytes → item_or (item_of path read) ≡ item_or (item_of_bytes path bytes (placeholder_of bytes))
item-by_bytes path reads.Absent bytes e = absurd cc
item-by_bytes path (reads.Bytes b) bytes e = ap (λ b. item_or (item_of_bytes path b (placeholder_of b))) (same_ok b bytes e)
item-by_bytes path reads.TooLong bytes e = absurd cc

pub item-refused : (path : List ℕ) (read : FileRead) (why : Why) → bytes_or path read ≡ Err why → item_or (item_of path read) ≡ Err why
item-refused path reads.Absent why e = cc e
item-refused path (reads.Bytes b) why e = absurd cc
item-refused path reads.TooLong why e = cc e

-- a file that is there is an item or refused
pub there-is : (path : List ℕ) (read : FileRead) → (read ≡ reads.Absent → ⊥) → item_if_there path read ≡ some_item (item_or (item_of path read))
there-is path reads.Absent h = absurd (h refl)
there-is path (reads.Bytes b) h = refl
there-is path reads.TooLong h = refl

-- ---- the first of some paths

pub by_size : (path : List ℕ) (bytes : List ℕ) (test : Bool) → item_if_there path (cond test (reads.Bytes bytes) reads.TooLong) ≡ some_item (item_or (item_of path (cond test (reads.Bytes bytes) reads.TooLong)))
by_size path bytes true = refl
by_size path bytes false = refl

not_none : (x : Result Gathered Why) → some_item x ≡ Ok None → ⊥
not_none (Ok item) e = cc e
not_none (Err why) e = cc e

is_item : (x : Result Gathered Why) (item : Gathered) → some_item x ≡ Ok (Some item) → x ≡ Ok item
is_item (Ok y) item e = ap (λ (y : Gathered). Ok y) (by e)
  where
    by : ◌≡◌ {A = Result (Option Gathered) Why} (Ok (Some y)) (Ok (Some item)) → y ≡ item
    by e = cc e
is_item (Err why) item e = absurd cc

is_refused : (x : Result Gathered Why) (why : Why) → some_item x ≡ Err why → x ≡ Err why
is_refused (Ok y) why e = absurd cc
is_refused (Err w) why e = ap (λ (w : Why). Err w) (by e)
  where
    by : ◌≡◌ {A = Result (Option Gathered) Why} (Err w) (Err why) → w ≡ why
    by e = cc e

module _ (files : Files) (missing place : List ℕ) (places : List (List ℕ)) where
  -- by what stands at the first
  abbrev first-by : Option (List ℕ) → Option (List ℕ)
  first-by found = elim found [ Some bytes ↦ Some place | None ↦ first_found files places ]

  first-is : first_found files (place ∷ places) ≡ first-by (files place)
  unfolding first_found
  first-is = refl

  -- where nothing is there, what is found is found among the others
  passes : (found : Option (List ℕ)) → files place ≡ found → item_if_there place (file_read found) ≡ Ok None → first_item files missing (place ∷ places) ≡ first_item files missing places
  passes None is e = ap (λ found. item_at_path files (found_or missing found)) (first-is ∙ ap first-by is)
  passes (Some bytes) is e = absurd (not_none _ (sym (by_size place bytes (nat_le (length bytes) max_size)) ∙ e))

  -- where something is there, it is found
  finds : (found : Option (List ℕ)) → files place ≡ found → (item_if_there place (file_read found) ≡ Ok None → ⊥) → some_item (first_item files missing (place ∷ places)) ≡ item_if_there place (file_read found)
  finds None is e = absurd (e refl)
  finds (Some bytes) is e =
      ap (λ found. some_item (item_at_path files (found_or missing found))) (first-is ∙ ap first-by is)
      ∙ ap (λ found. some_item (item_or (item_of place (file_read found)))) is
      ∙ sym (by_size place bytes (nat_le (length bytes) max_size))

  pub first-passes : item_if_there place (file_read (files place)) ≡ Ok None → first_item files missing (place ∷ places) ≡ first_item files missing places
  first-passes = passes (files place) refl

  pub first-found : (item : Gathered) → item_if_there place (file_read (files place)) ≡ Ok (Some item) → first_item files missing (place ∷ places) ≡ Ok item
  first-found item e = is_item _ item (finds (files place) refl (λ none. cc (sym none ∙ e)) ∙ e)

  pub first-refused : (why : Why) → item_if_there place (file_read (files place)) ≡ Err why → first_item files missing (place ∷ places) ≡ Err why
  first-refused why e = is_refused _ why (finds (files place) refl (λ none. cc (sym none ∙ e)) ∙ e)

-- ---- while the paths are looked at

-- the next of some stands first among those that are left
pub next-drop : {A : Type 0} (xs : List A) (i : ℕ) (x : A) → i < length xs → x ≡ get_or xs i x → drop i xs ≡ x ∷ drop (i + 1) xs
next-drop xs i x within is = drop-cons xs i x within ∙ (λ j. sym is j ∷ drop (sym (add-one i) j) xs)

-- none is left
pub last-drop : {A : Type 0} (xs : List A) (i : ℕ) → length xs ≤ i → i ≤ length xs → drop i xs ≡ []
last-drop xs i end within = let all : i ≡ length xs = omega (arith, end, within) in ap (λ i. drop i xs) all ∙ drop-length xs

-- none of the first paths is there, and a tree was read
pub record HasPassed {T : Type 0} (tells : Type 0) (files : T → Files) (changes : T → List Change) (calls counts : T → ℕ) (retries : ℕ) (missing : List ℕ) (places : List (List ℕ)) (old now : T) (i : ℕ) : Type 0 where
  pub left : tells → first_item (files old) missing places ≡ first_item (files old) missing (drop i places)
  pub reads : ReadsFiles {A = Unit {0}} tells files changes calls counts retries old now (Ok tt)

-- no path is left
pub first-none : (files : Files) (missing : List ℕ) → first_item files missing [] ≡ Err (Refused (NoFile missing))
unfolding first_found
first-none files missing = refl

-- ---- work that reads

module _ (a : Kept) (f g : Filed) (same : g ≡ f) where
  pub goes-read : (path : List ℕ) (r : Result Gathered ApplyFault) → Finds (item_or (item_of path (file_read (f.files path)))) r → Goes (read_item path) 0 (between a a f g) r
  goes-read path r found =
      goes-found (read_item path) (item_or (item_of path (file_read (f.files path)))) a f g r same (grows-read_item path) (λ w is. ap (λ (files : Files). unless (item_or (item_of path (file_read (files path)))) w) is) found

  plain-by : (wanted : Result (List ℕ) Why) (w : Work) → go_on (unless wanted w) (λ bytes. give (Plain bytes)) ≡ unless (plain_or wanted) w
  plain-by (Ok bytes) w = refl
  plain-by (Err why) w = refl

  pub goes-take : (items : List Gathered) (path : List ℕ) (r : Result Gathered ApplyFault) → Finds (plain_or (bytes_or path (file_read (f.files path)))) r → Goes (taken symbolic items (Take path)) 0 (between a a f g) r
  goes-take items path r found =
      goes-found (taken symbolic items (Take path)) (plain_or (bytes_or path (file_read (f.files path)))) a f g r same (grows-taken items (Take path))
      (λ w is. plain-by (bytes_or path (file_read (w.files path))) w ∙ ap (λ (files : Files). unless (plain_or (bytes_or path (file_read (files path)))) w) is) found

  first-by_path : (wanted : Result (List ℕ) Why) (w : Work) → go_on (unless wanted w) (λ path. read_item path) ≡ unless (item_at_path w.files wanted) w
  first-by_path (Ok path) w = refl
  first-by_path (Err why) w = refl

  pub goes-find : (items : List Gathered) (missing : List ℕ) (places : List (List ℕ)) (r : Result Gathered ApplyFault) → Finds (first_item f.files missing places) r → Goes (taken symbolic items (Find missing places)) 0 (between a a f g) r
  goes-find items missing places r found =
      goes-found (taken symbolic items (Find missing places)) (first_item f.files missing places) a f g r same (grows-taken items (Find missing places))
      (λ w is. first-by_path (found_or missing (first_found w.files places)) w ∙ ap (λ (files : Files). unless (first_item files missing places) w) is) found

-- bytes that were taken
pub finds-plain : (wanted : Result (List ℕ) Why) (fault : ApplyFault) → Finds wanted (Err fault) → Finds (plain_or wanted) (Err fault)
finds-plain wanted fault h = finds-fault wanted (plain_or wanted) fault (λ why e. ap plain_or e) h
