-- Work that goes through a list, one after another.
use Rattle.std.specs.Prelude.{OnOk, Bool, is_some, nat_le, if◌then◌else◌}
use Rattle.object_name.specs.Name.{max_size}
use Rattle.std.proofs.Common.{true, false, Option, Some, None, ◌≡◌, ◌+◌, ◌<◌, ◌≤◌, ℕ, List, [], ◌∷◌, ◌++◌, length, drop, map, get_or, Result, Ok, Err, refl, sym, ap, subst, ◌∙◌, append_assoc, append-nil}
use Rattle.std.specs.List.{AllByRecursion}
use Rattle.blob_store.specs.Store.{Store, Write}
use Rattle.blob_store.specs.Keeping.{Kept, kept}
use Rattle.file_tree.specs.Files.{Files, Filed, file_read, filed_in}
use Rattle.build_plan.specs.Gathered.{item_of}
use Rattle.build_plan.specs.Way.{optional_input}
use Rattle.build_plan.specs.declared.plan.Source.TheVariants.{File}
use Rattle.file_tree.specs.declared.change.Change.{Change}
use Rattle.file_tree.specs.declared.model_fault.ApplyFault.{ApplyFault}
use Rattle.thunk_codec.specs.Fitting.{AreFit}
use Rattle.thunk_codec.specs.Reference.{IsRef}
use Rattle.thunk_codec.specs.declared.reference.Ref.{Ref}
use Rattle.build_plan.specs.declared.plan.Source.{Source}
use Rattle.build_plan.specs.declared.gathered.Gathered.{Gathered}
use Rattle.build_plan.specs.Doing.{Why, unless, Ended, Got, Stopped, Doing, ◌>>=◌, give, go_on, each}
use Rattle.build_plan.specs.Symbolic.{Work, item_or, input_ref, source_item, ref_of_item}
use Rattle.build_plan.specs.Applying.{Sides, sides}
use Rattle.build_plan.specs.StepContracts.{AreCompleted, Finds, between, Fares, Leads, Goes, IsCutOff, item_if_there, more_refs, place_if, read_refs, some_item, source_ref}
use Rattle.build_plan.proofs.WritesGrow.{Grows, grows-give, grows-bind, grows-each, grows-input_ref, grows-ref_of_item, grows-unless}
use Rattle.build_plan.proofs.FilesAreFound.{by_size, last-drop, next-drop}
use Rattle.build_plan.proofs.WorkGoesOn.{goes-bind, goes-found, goes-then, goes-on, goes-same, leads-bind, leads-cut, leads-none, leads-on, leads-same}

-- ---- steps of one work

-- two works after a first are the second, with the third after it
pub bind-bind : {A B C : Type 0} (e : Ended Work A) (next : A → Doing Work B) (last : B → Doing Work C) → go_on (go_on e next) last ≡ go_on e (λ x. next x >>= last)
bind-bind (Got x w) next last = refl
bind-bind (Stopped why w) next last = refl

pub bind-none : {A : Type 0} (e : Ended Work (List A)) → e ≡ go_on e (λ ys. give ([] ++ ys))
bind-none (Got ys w) = refl
bind-none (Stopped why w) = refl

-- what is left may be said otherwise
pub leads-left : {A : Type 0} (work left other : Doing Work A) (m : ℕ) (s : Sides) → ((w : Work) → left w ≡ other w) → Leads work left m s → Leads work other m s
leads-left work left other m s same h = record { made = h.made; kept = h.kept; files = h.files; goes_on = λ w at. h.goes_on w at ∙ same _ }

-- more work stands behind what is left
pub leads-more : {A B : Type 0} (work left : Doing Work A) (next : A → Doing Work B) (m : ℕ) (s : Sides) → Leads work left m s → Leads (work >>= next) (left >>= next) m s
leads-more work left next m s h = record { made = h.made; kept = h.kept; files = h.files; goes_on = λ w at. ap (λ e. go_on e next) (h.goes_on w at) }

-- ---- each of some

-- what is left behind some results
abbrev pub behind : {A B : Type 0} → (A → Doing Work B) → List B → List A → Doing Work (List B)
behind work done xs = each work xs >>= λ more. give (done ++ more)

behind-one : {B : Type 0} (done : List B) (y : B) (e : Ended Work (List B)) → go_on (go_on e (λ ys. give (y ∷ ys))) (λ ys. give (done ++ ys)) ≡ go_on e (λ ys. give ((done ++ y ∷ []) ++ ys))
behind-one done y (Got ys w) = ap (λ l. Got l w) (sym (append_assoc done (y ∷ []) ys))
behind-one done y (Stopped why w) = refl

module _ {A B : Type 0} (work : A → Doing Work B) where
  -- one more is done
  pub each-next : (done : List B) (x : A) (xs : List A) (y : B) (m : ℕ) (s : Sides) → Leads (work x) (give y) m s → Leads (behind work done (x ∷ xs)) (behind work (done ++ y ∷ []) xs) m s
  each-next done x xs y m s h =
      leads-left (behind work done (x ∷ xs)) ((each work xs >>= λ ys. give (y ∷ ys)) >>= λ more. give (done ++ more)) (behind work (done ++ y ∷ []) xs) m s (λ w. behind-one done y (each work xs w))
      (leads-more (each work (x ∷ xs)) (each work xs >>= λ ys. give (y ∷ ys)) (λ more. give (done ++ more)) m s
      (leads-more (work x) (give y) (λ y. each work xs >>= λ ys. give (y ∷ ys)) m s h))

  -- the next one ends at a fault
  pub each-stop : ((x : A) → Grows (work x)) → (done : List B) (x : A) (xs : List A) (m n : ℕ) (s : Sides) (fault : ApplyFault) → Goes (work x) m s (Err fault) → Goes (behind work done (x ∷ xs)) n s (Err fault)
  each-stop grows done x xs m n s fault h =
      goes-bind (each work (x ∷ xs)) (λ more. give (done ++ more)) m n s fault (λ more. grows-give (done ++ more))
      (goes-bind (work x) (λ y. each work xs >>= λ ys. give (y ∷ ys)) m m s fault (λ y. grows-bind (each work xs) (λ ys. give (y ∷ ys)) (grows-each work grows xs) (λ ys. grows-give (y ∷ ys))) h)

  pub grows-behind : ((x : A) → Grows (work x)) → (done : List B) (xs : List A) → Grows (behind work done xs)
  grows-behind grows done xs = grows-bind (each work xs) (λ more. give (done ++ more)) (grows-each work grows xs) (λ more. grows-give (done ++ more))

  behind-more : (y : B) (ys : List A) (e : Ended Work (List B)) → go_on (go_on e (λ done. behind work done ys)) (λ zs. give (y ∷ zs)) ≡ go_on (go_on e (λ done. give (y ∷ done))) (λ done. behind work done ys)
  behind-more y ys (Got done w) = by (each work ys w)
    where
      by : (e : Ended Work (List B)) → go_on (go_on e (λ more. give (done ++ more))) (λ zs. give (y ∷ zs)) ≡ go_on e (λ more. give ((y ∷ done) ++ more))
      by (Got more u) = refl
      by (Stopped why u) = refl
  behind-more y ys (Stopped why w) = refl

  one-before : (x : A) (xs ys : List A) → ((w : Work) → each work (xs ++ ys) w ≡ go_on (each work xs w) (λ done. behind work done ys)) → (e : Ended Work B)
      → go_on e (λ y. each work (xs ++ ys) >>= λ zs. give (y ∷ zs)) ≡ go_on (go_on e (λ y. each work xs >>= λ zs. give (y ∷ zs))) (λ done. behind work done ys)
  one-before x xs ys same (Got y w) = ap (λ e. go_on e (λ zs. give (y ∷ zs))) (same w) ∙ behind-more y ys (each work xs w)
  one-before x xs ys same (Stopped why w) = refl

  -- some, and then others
  pub each-append : (xs ys : List A) (w : Work) → each work (xs ++ ys) w ≡ (each work xs >>= λ done. behind work done ys) w
  each-append [] ys w = bind-none (each work ys w)
  each-append (x ∷ xs) ys w = one-before x xs ys (each-append xs ys) (work x w)

-- ---- inputs

-- an input is read and stored, and stands under its path
pub input-is : (items : List Gathered) (input : List ℕ × Source) (w : Work) → input_ref items input w ≡ ((source_item items input.1 >>= ref_of_item) >>= λ ref. give (input.0, ref)) w
input-is items input w = sym (bind-bind (source_item items input.1 w) ref_of_item (λ ref. give (input.0, ref)))

module _ (items : List Gathered) (inputs : List (List ℕ × Source)) (a b c : Kept) (f g h : Filed) (i : ℕ) (refs : List (List ℕ × Ref))
    (so_far : Leads (each (input_ref items) inputs) (behind (input_ref items) refs (drop i inputs)) 0 (between a b f g)) (input : List ℕ × Source) (within : i < length inputs) (is : input ≡ get_or inputs i input) where
  abbrev whole : Doing Work (List (List ℕ × Ref))
  whole = each (input_ref items) inputs

  abbrev later : List (List ℕ × Source)
  later = drop (i + 1) inputs

  -- the next input stands first in what is left
  next-stands : Leads whole (behind (input_ref items) refs (input ∷ later)) 0 (between a b f g)
  next-stands = subst (λ (xs : List (List ℕ × Source)). Leads whole (behind (input_ref items) refs xs) 0 (between a b f g)) (next-drop inputs i input within is) so_far

  -- one more is stored
  pub inputs-more : (ref : Ref) → Goes (source_ref items input.1) 0 (between b c g h) (Ok ref) → Leads whole (behind (input_ref items) (refs ++ (input.0, ref) ∷ []) later) 0 (between a c f h)
  inputs-more ref goes =
      leads-on whole (behind (input_ref items) refs (input ∷ later)) 0 a b c f g h next-stands (behind (input_ref items) (refs ++ (input.0, ref) ∷ []) later) 0
      (each-next (input_ref items) refs input later (input.0, ref) 0 (between b c g h)
      (leads-same (input_ref items input) (source_ref items input.1 >>= λ ref. give (input.0, ref)) (give (input.0, ref)) 0 (between b c g h) (λ w at. input-is items input w)
      (leads-bind (source_ref items input.1) (λ ref. give (input.0, ref)) ref 0 (between b c g h) goes)))

  -- the next one stops the whole
  pub inputs-stop : (fault : ApplyFault) → Goes (source_ref items input.1) 0 (between b c g h) (Err fault) → Goes whole 0 (between a c f h) (Err fault)
  inputs-stop fault goes =
      goes-on whole (behind (input_ref items) refs (input ∷ later)) 0 a b c f g h next-stands 0 (Err fault)
      (each-stop (input_ref items) (grows-input_ref items) refs input later 0 0 (between b c g h) fault
      (goes-same (input_ref items input) (source_ref items input.1 >>= λ ref. give (input.0, ref)) 0 (between b c g h) (Err fault) (λ w at. input-is items input w)
      (goes-bind (source_ref items input.1) (λ ref. give (input.0, ref)) 0 0 (between b c g h) fault (λ ref. grows-give {A = List ℕ × Ref} (input.0, ref)) goes)))

  -- memory ends behind it
  pub inputs-cut : (ref : Ref) → Goes (source_ref items input.1) 0 (between b c g h) (Ok ref) → IsCutOff whole (between a c f h)
  inputs-cut ref goes =
      leads-cut whole (behind (input_ref items) (refs ++ (input.0, ref) ∷ []) later) 0 (between a c f h) (inputs-more ref goes) (grows-behind (input_ref items) (grows-input_ref items) (refs ++ (input.0, ref) ∷ []) later)

-- no input is left
pub inputs-end : (items : List Gathered) (inputs left : List (List ℕ × Source)) (s : Sides) (refs : List (List ℕ × Ref)) → Leads (each (input_ref items) inputs) (behind (input_ref items) refs left) 0 s → left ≡ [] → Leads (each (input_ref items) inputs) (give refs) 0 s
inputs-end items inputs left s refs h none =
    leads-left (each (input_ref items) inputs) (behind (input_ref items) refs []) (give refs) 0 s (λ w. ap (λ l. Got l w) (append-nil refs))
    (subst (λ (left : List (List ℕ × Source)). Leads (each (input_ref items) inputs) (behind (input_ref items) refs left) 0 s) none h)

-- no input is stored yet
pub inputs-start : (items : List Gathered) (inputs : List (List ℕ × Source)) (a : Kept) (f : Filed) → Leads (each (input_ref items) inputs) (behind (input_ref items) [] inputs) 0 (between a a f f)
inputs-start items inputs a f =
    leads-left (each (input_ref items) inputs) (each (input_ref items) inputs) (behind (input_ref items) [] inputs) 0 (between a a f f) (λ w. bind-none (each (input_ref items) inputs w))
    (leads-none (each (input_ref items) inputs) a a f f refl refl)

-- ---- lists that grow

pub all-more : (refs : List (List ℕ × Ref)) (path : List ℕ) (ref : Ref) → AllByRecursion IsRef (map (λ input. input.1) refs) → IsRef ref → AllByRecursion IsRef (map (λ input. input.1) (refs ++ (path, ref) ∷ []))
all-more [] path ref h is = (is, tt)
all-more (x ∷ refs) path ref h is = (h.0, all-more refs path ref h.1 is)

pub paths-more : (refs : List (List ℕ × Ref)) (path : List ℕ) (ref : Ref) → map (λ input. input.0) (refs ++ (path, ref) ∷ []) ≡ map (λ input. input.0) refs ++ path ∷ []
paths-more [] path ref = refl
paths-more (x ∷ refs) path ref = ap (λ (l : List (List ℕ)). x.0 ∷ l) (paths-more refs path ref)

pub map-both : {A B : Type 0} (f : A → B) (xs ys : List A) → map f (xs ++ ys) ≡ map f xs ++ map f ys
map-both f [] ys = refl
map-both f (x ∷ xs) ys = ap (λ l. f x ∷ l) (map-both f xs ys)

-- one more of some that are mapped
pub mapped-more : {A B : Type 0} (f : A → B) (xs : List A) (i : ℕ) (x : A) (done : List B) → i < length xs → x ≡ get_or xs i x → map f xs ≡ done ++ map f (drop i xs) → map f xs ≡ (done ++ f x ∷ []) ++ map f (drop (i + 1) xs)
mapped-more f xs i x done within is h = h ∙ ap (λ l. done ++ map f l) (next-drop xs i x within is) ∙ sym (append_assoc done (f x ∷ []) (map f (drop (i + 1) xs)))

pub mapped-end : {A B : Type 0} (f : A → B) (xs : List A) (i : ℕ) (done : List B) → length xs ≤ i → i ≤ length xs → map f xs ≡ done ++ map f (drop i xs) → map f xs ≡ done
mapped-end f xs i done end within h = h ∙ ap (λ l. done ++ map f l) (last-drop xs i end within) ∙ append-nil done

-- ---- while inputs are stored

pub record HasRefs {K T : Type 0} (kept_tells files_tell : Type 0) (store : K → Store) (writes : K → List Write) (files : T → Files) (changes : T → List Change) (kept_calls kept_counts : K → ℕ) (file_calls file_counts : T → ℕ) (retries : ℕ)
    (items : List Gathered) (inputs : List (List ℕ × Source)) (keeper_old keeper : K) (tree_old tree : T) (i : ℕ) (refs : List (List ℕ × Ref)) : Type 0 where
  pub left : kept_tells → files_tell → Leads (each (input_ref items) inputs) (behind (input_ref items) refs (drop i inputs)) 0 (sides (kept store writes) (filed_in files changes) keeper_old keeper tree_old tree)
  pub paths : map (λ input. input.0) inputs ≡ map (λ input. input.0) refs ++ map (λ input. input.0) (drop i inputs)
  pub references : AllByRecursion IsRef (map (λ input. input.1) refs)
  pub fares : Fares {A = Unit {0}} kept_tells files_tell kept_calls kept_counts file_calls file_counts retries keeper_old keeper tree_old tree (Ok tt)

-- ---- one input more, if it is there

-- the file at a path is read, if it is there
abbrev pub found_at : List ℕ → Doing Work (Option Gathered)
found_at path = λ w. unless (item_if_there path (file_read (w.files path))) w

module _ (items : List Gathered) (refs : List (List ℕ × Ref)) (place path : List ℕ) where
  last-by : (wanted : Result Gathered Why) (w : Work)
      → go_on (go_on (go_on (unless wanted w) (λ item. ref_of_item item >>= λ ref. give (place, ref))) (λ y. each (input_ref items) [] >>= λ ys. give (y ∷ ys))) (λ more. give (refs ++ more))
      ≡ go_on (unless (some_item wanted) w) (read_refs refs place)
  last-by (Ok item) w = by (ref_of_item item w)
    where
      by : (e : Ended Work Ref) → go_on (go_on (go_on e (λ ref. give (place, ref))) (λ y. each (input_ref items) [] >>= λ ys. give (y ∷ ys))) (λ more. give (refs ++ more)) ≡ go_on e (λ ref. give (refs ++ (place, ref) ∷ []))
      by (Got ref u) = refl
      by (Stopped why u) = refl
  last-by (Err why) w = refl

  -- by what stands at the path
  more-by : (found : Option (List ℕ)) (w : Work) → w.files path ≡ found
      → more_refs items refs (if is_some found then (place, File path) ∷ [] else []) w ≡ go_on (unless (item_if_there path (file_read found)) w) (read_refs refs place)
  more-by None w is = ap (λ l. Got l w) (append-nil refs)
  more-by (Some bytes) w is =
      last-by (item_or (item_of path (file_read (w.files path)))) w
      ∙ ap (λ found. go_on (unless (some_item (item_or (item_of path (file_read found)))) w) (read_refs refs place)) is
      ∙ ap (λ wanted. go_on (unless wanted w) (read_refs refs place)) (sym (by_size path bytes (nat_le (length bytes) max_size)))

  -- it is read, and then stored behind the others
  more-is : (files : Files) (w : Work) → w.files ≡ files → more_refs items refs (optional_input files (Some (place, path))) w ≡ (found_at path >>= read_refs refs place) w
  more-is files w is =
      sym (ap (λ (files : Files). more_refs items refs (optional_input files (Some (place, path))) w) is)
      ∙ more-by (w.files path) w refl

  grows-read : (item : Option Gathered) → Grows (read_refs refs place item)
  grows-read None = grows-give refs
  grows-read (Some item) = grows-bind (ref_of_item item) (λ ref. give (refs ++ (place, ref) ∷ [])) (grows-ref_of_item item) (λ ref. grows-give (refs ++ (place, ref) ∷ []))

  module _ (s : Sides) where
    pub read-more : (item : Gathered) (ref : Ref) → Goes (ref_of_item item) 0 s (Ok ref) → Goes (read_refs refs place (Some item)) 0 s (Ok (refs ++ (place, ref) ∷ []))
    read-more item ref h = leads-bind (ref_of_item item) (λ ref. give (refs ++ (place, ref) ∷ [])) ref 0 s h

    pub read-stop : (item : Gathered) (fault : ApplyFault) → Goes (ref_of_item item) 0 s (Err fault) → Goes (read_refs refs place (Some item)) 0 s (Err fault)
    read-stop item fault h = goes-bind (ref_of_item item) (λ ref. give (refs ++ (place, ref) ∷ [])) 0 0 s fault (λ ref. grows-give (refs ++ (place, ref) ∷ [])) h

    pub read-cut : (item : Gathered) (ref : Ref) → Goes (ref_of_item item) 0 s (Ok ref) → IsCutOff (read_refs refs place (Some item)) s
    read-cut item ref h = leads-cut (read_refs refs place (Some item)) (give (refs ++ (place, ref) ∷ [])) 0 s (read-more item ref h) (grows-give (refs ++ (place, ref) ∷ []))

  module _ (a b : Kept) (f g h : Filed) (same : g ≡ f) where
    goes-found_at : (r : Result (Option Gathered) ApplyFault) → Finds (item_if_there path (file_read (f.files path))) r → Goes (found_at path) 0 (between a a f g) r
    goes-found_at r found =
        goes-found (found_at path) (item_if_there path (file_read (f.files path))) a f g r same (λ w. grows-unless (item_if_there path (file_read (w.files path))) w)
        (λ w is. ap (λ (files : Files). unless (item_if_there path (file_read (files path))) w) is) found

    -- it was read
    pub optional-then : (item : Option Gathered) (r : Result (List (List ℕ × Ref)) ApplyFault) → Finds (item_if_there path (file_read (f.files path))) (Ok item) → Goes (read_refs refs place item) 0 (between a b g h) r
        → Goes (more_refs items refs (optional_input f.files (Some (place, path)))) 0 (between a b f h) r
    optional-then item r found goes =
        goes-same (more_refs items refs (optional_input f.files (Some (place, path)))) (found_at path >>= read_refs refs place) 0 (between a b f h) r (λ w at. more-is f.files w at.files)
        (goes-then (found_at path) (read_refs refs place) item 0 0 a a b f g h r (goes-found_at (Ok item) found) goes)

    -- reading it stops the whole
    pub optional-stop : (fault : ApplyFault) → Finds (item_if_there path (file_read (f.files path))) (Err fault) → Goes (more_refs items refs (optional_input f.files (Some (place, path)))) 0 (between a a f g) (Err fault)
    optional-stop fault found =
        goes-same (more_refs items refs (optional_input f.files (Some (place, path)))) (found_at path >>= read_refs refs place) 0 (between a a f g) (Err fault) (λ w at. more-is f.files w at.files)
        (goes-bind (found_at path) (read_refs refs place) 0 0 (between a a f g) fault grows-read (goes-found_at (Err fault) found))

-- no input is added
pub optional-none : (items : List Gathered) (refs : List (List ℕ × Ref)) (files : Files) (a : Kept) (f : Filed) → Goes (more_refs items refs (optional_input files None)) 0 (between a a f f) (Ok refs)
optional-none items refs files a f =
    leads-left (more_refs items refs []) (more_refs items refs []) (give refs) 0 (between a a f f) (λ w. ap (λ l. Got l w) (append-nil refs)) (leads-none (more_refs items refs []) a a f f refl refl)

pub completed-none : (before after : List (List ℕ)) → after ≡ before → AreCompleted before None after
completed-none before after is = record { files = λ path. None; paths = is ∙ sym (append-nil before) }

pub completed-by : (before after : List (List ℕ)) (place path : List ℕ) (there : Bool) → after ≡ before ++ place_if place there → AreCompleted before (Some (place, path)) after
completed-by before after place path true is = record { files = λ other. Some []; paths = is }
completed-by before after place path false is = record { files = λ other. None; paths = is }

-- ---- all inputs

module _ (items : List Gathered) (inputs others : List (List ℕ × Source)) (a b c : Kept) (f g h : Filed) where
  -- the inputs, and then the others behind them
  pub all-inputs : (refs : List (List ℕ × Ref)) (r : Result (List (List ℕ × Ref)) ApplyFault) → Goes (each (input_ref items) inputs) 0 (between a b f g) (Ok refs) → Goes (more_refs items refs others) 0 (between b c g h) r
      → Goes (each (input_ref items) (inputs ++ others)) 0 (between a c f h) r
  all-inputs refs r first second =
      goes-same (each (input_ref items) (inputs ++ others)) (each (input_ref items) inputs >>= λ refs. more_refs items refs others) 0 (between a c f h) r (λ w at. each-append (input_ref items) inputs others w)
      (goes-then (each (input_ref items) inputs) (λ refs. more_refs items refs others) refs 0 0 a b c f g h r first second)

  pub all-stop : (fault : ApplyFault) → Goes (each (input_ref items) inputs) 0 (between a b f g) (Err fault) → Goes (each (input_ref items) (inputs ++ others)) 0 (between a b f g) (Err fault)
  all-stop fault first =
      goes-same (each (input_ref items) (inputs ++ others)) (each (input_ref items) inputs >>= λ refs. more_refs items refs others) 0 (between a b f g) (Err fault) (λ w at. each-append (input_ref items) inputs others w)
      (goes-bind (each (input_ref items) inputs) (λ refs. more_refs items refs others) 0 0 (between a b f g) fault (λ refs. grows-behind (input_ref items) (grows-input_ref items) refs others) first)

-- a fact where a call succeeded
pub on-ok : {U P Q : Type 0} (r : Result U ApplyFault) → (P → Q) → OnOk r P → OnOk r Q
on-ok (Ok u) f h = f h
on-ok (Err fault) f h = tt

-- what fits with the optional input and without fits with what was completed
pub completed-fits : (args : List (List ℕ)) (envs : List (List ℕ × List ℕ)) (inputs : List (List ℕ × Source)) (optional : Option (List ℕ × List ℕ)) (outputs paths : List (List ℕ)) → AreCompleted (map (λ input. input.0) inputs) optional paths
    → ((files : Files) → AreFit args envs (map (λ input. input.0) (inputs ++ optional_input files optional)) outputs) → AreFit args envs paths outputs
completed-fits args envs inputs optional outputs paths h fits =
    subst (λ (paths : List (List ℕ)). AreFit args envs paths outputs) (map-both (λ input. input.0) inputs (optional_input h.files optional) ∙ sym h.paths) (fits h.files)
