-- The writes of work that goes on begin with those that it had.
use Rattle.std.proofs.Common.{ℕ, suc, List, [], ◌∷◌, ◌++◌, Option, Some, None, Result, Ok, Err, refl, sym, ap, ◌∙◌, append_assoc, append-nil}
use Rattle.object_name.specs.Kind.{kind_of}
use Rattle.object_name.specs.Streams.{IsPrefix}
use Rattle.object_name.specs.declared.kind.Kind.{Kind}
use Rattle.object_name.specs.declared.kind.Kind.TheVariants as kinds
use Rattle.thunk_codec.specs.Card.{card_text}
use Rattle.thunk_codec.specs.Thunk.{Parts, text_of}
use Rattle.thunk_codec.specs.declared.reference.Ref.{Ref}
use Rattle.thunk_codec.specs.declared.reference.Ref.TheVariants as refs
use Rattle.blob_store.specs.Store.{other_held, storing}
use Rattle.file_tree.specs.Files.{file_read}
use Rattle.file_tree.specs.declared.change.Change.{Change}
use Rattle.include_scan.specs.Scanning.{scanned_paths}
use Rattle.build_plan.specs.declared.gathered.Gathered.{Gathered}
use Rattle.build_plan.specs.declared.gathered.Gathered.TheVariants.{Plain, Output}
use Rattle.build_plan.specs.declared.plan.Source.{Source}
use Rattle.build_plan.specs.declared.plan.Source.TheVariants.{File, Made}
use Rattle.build_plan.specs.declared.plan.Stage.{Stage}
use Rattle.build_plan.specs.declared.plan.Step.{Step}
use Rattle.build_plan.specs.declared.plan.Step.TheVariants.{Read, Take, Find, Run, Scan}
use Rattle.build_plan.specs.Doing.{Why, Ended, Got, Stopped, Doing, ◌>>=◌, give, go_on, unless, each, state_after}
use Rattle.build_plan.specs.Gathered.{item_of}
use Rattle.build_plan.specs.Way.{bytes_or, completed, first_found, found_or, scanned_or, scanned_stage, taken, gathered, item_at}
use Rattle.build_plan.specs.Symbolic.{Work, symbolic, item_or, read_item, stored, stored_by, value_ref, ref_of_item, source_item, input_ref, thunk_stored, thunk_made, parts_by, file_changed}

-- what was written stands first in what is written when the work has ended
abbrev pub Grows : {A : Type 0} → Doing Work A → Type 0
Grows work = (w : Work) → IsPrefix w.writes (state_after (work w)).writes

pub prefix-same : {A : Type 0} (l : List A) → IsPrefix l l
prefix-same l = record { rest = []; whole = sym (append-nil l) }

pub prefix-trans : {A : Type 0} (a b c : List A) → IsPrefix a b → IsPrefix b c → IsPrefix a c
prefix-trans a b c h k = record { rest = h.rest ++ k.rest; whole = k.whole ∙ ap (λ l. l ++ k.rest) h.whole ∙ append_assoc a h.rest k.rest }

-- what follows only grows
pub grows-on : {A B : Type 0} (e : Ended Work A) (next : A → Doing Work B) → ((x : A) → Grows (next x)) → IsPrefix (state_after e).writes (state_after (go_on e next)).writes
grows-on (Got x w) next more = more x w
grows-on (Stopped why w) next more = prefix-same w.writes

pub grows-bind : {A B : Type 0} (work : Doing Work A) (next : A → Doing Work B) → Grows work → ((x : A) → Grows (next x)) → Grows (work >>= next)
grows-bind work next h more w = prefix-trans w.writes (state_after (work w)).writes (state_after (go_on (work w) next)).writes (h w) (grows-on (work w) next more)

pub grows-give : {A : Type 0} (x : A) → Grows (give x)
grows-give x w = prefix-same w.writes

pub grows-unless : {A : Type 0} (r : Result A Why) → Grows (unless r)
grows-unless (Ok x) w = prefix-same w.writes
grows-unless (Err why) w = prefix-same w.writes

pub grows-each : {A B : Type 0} (work : A → Doing Work B) → ((x : A) → Grows (work x)) → (xs : List A) → Grows (each work xs)
grows-each {B = B} work h [] = grows-give {A = List B} []
grows-each work h (x ∷ xs) =
    grows-bind (work x) (λ y. each work xs >>= λ ys. give (y ∷ ys)) (h x) (λ y. grows-bind (each work xs) (λ ys. give (y ∷ ys)) (grows-each work h xs) (λ ys. grows-give (y ∷ ys)))

-- ---- storing and reading

grows-stored_by : (bytes : List ℕ) (other : Option (List ℕ)) → Grows (stored_by bytes other)
grows-stored_by bytes None w = record { rest = storing w.store bytes; whole = refl }
grows-stored_by bytes (Some found) w = prefix-same w.writes

pub grows-stored : (bytes : List ℕ) → Grows (stored bytes)
grows-stored bytes w = grows-stored_by bytes (other_held w.store bytes) w

pub grows-read_item : (path : List ℕ) → Grows (read_item path)
grows-read_item path w = grows-unless (item_or (item_of path (file_read (w.files path)))) w

grows-value_ref : (bytes : List ℕ) (kind : Kind) → Grows (value_ref bytes kind)
grows-value_ref bytes kinds.Value = grows-bind (stored bytes) (λ name. give (refs.Value name)) (grows-stored bytes) (λ name. grows-give (refs.Value name))
grows-value_ref bytes kinds.Thunk = λ w. prefix-same w.writes

pub grows-ref_of_item : (item : Gathered) → Grows (ref_of_item item)
grows-ref_of_item (Plain bytes) = grows-value_ref bytes (kind_of bytes)
grows-ref_of_item (Output name index) = grows-give (refs.Out name index)

grows-source_item : (items : List Gathered) (source : Source) → Grows (source_item items source)
grows-source_item items (File path) = grows-read_item path
grows-source_item items (Made place) = grows-give (item_at (Plain []) items place)

pub grows-input_ref : (items : List Gathered) (input : List ℕ × Source) → Grows (input_ref items input)
grows-input_ref items input =
    grows-bind (source_item items input.1) (λ item. ref_of_item item >>= λ ref. give (input.0, ref)) (grows-source_item items input.1)
    (λ item. grows-bind (ref_of_item item) (λ ref. give (input.0, ref)) (grows-ref_of_item item) (λ ref. grows-give {A = List ℕ × Ref} (input.0, ref)))

pub grows-inputs : (items : List Gathered) (inputs : List (List ℕ × Source)) → Grows (each (input_ref items) inputs)
grows-inputs items inputs = grows-each (input_ref items) (grows-input_ref items) inputs

pub grows-thunk_stored : (parts : Parts) → Grows (thunk_stored parts)
grows-thunk_stored parts w = grows-bind (stored (text_of parts)) (λ name s. Got name (record s { thunks = suc s.thunks })) (grows-stored (text_of parts)) (λ name s. prefix-same s.writes) w

pub grows-thunk_made : (items : List Gathered) (stage : Stage) → Grows (thunk_made items stage)
grows-thunk_made items stage =
    grows-bind (stored (card_text stage.tool)) (λ card. each (input_ref items) stage.inputs >>= λ inputs. thunk_stored (parts_by stage (refs.Value card) inputs) >>= λ name. give (Output name 0)) (grows-stored (card_text stage.tool))
    (λ card. grows-bind (each (input_ref items) stage.inputs) (λ inputs. thunk_stored (parts_by stage (refs.Value card) inputs) >>= λ name. give (Output name 0)) (grows-inputs items stage.inputs)
    (λ inputs. grows-bind (thunk_stored (parts_by stage (refs.Value card) inputs)) (λ name. give (Output name 0)) (grows-thunk_stored (parts_by stage (refs.Value card) inputs)) (λ name. grows-give (Output name 0))))

-- ---- steps

pub grows-taken : (items : List Gathered) (step : Step) → Grows (taken symbolic items step)
grows-taken items (Read path) = grows-read_item path
grows-taken items (Take path) = λ w.
    grows-bind (unless (bytes_or path (file_read (w.files path)))) (λ bytes. give (Plain bytes)) (grows-unless (bytes_or path (file_read (w.files path)))) (λ bytes. grows-give (Plain bytes)) w
grows-taken items (Find missing places) = λ w.
    let found = found_or missing (first_found w.files places) in
    grows-bind (unless found) (λ path. read_item path) (grows-unless found) (λ path. grows-read_item path) w
grows-taken items (Run stage) = λ w. grows-thunk_made items (completed w.files stage) w
grows-taken items (Scan scanning) = λ w.
    let found = scanned_or (scanned_paths w.files scanning.folders scanning.source) in
    grows-bind (unless found) (λ paths. thunk_made [] (scanned_stage scanning paths)) (grows-unless found) (λ paths. grows-thunk_made [] (scanned_stage scanning paths)) w

pub grows-gathered : (steps : List Step) (items : List Gathered) → Grows (gathered symbolic steps items)
grows-gathered [] items = grows-give items
grows-gathered (step ∷ steps) items =
    grows-bind (taken symbolic items step) (λ item. gathered symbolic steps (items ++ item ∷ [])) (grows-taken items step) (λ item. grows-gathered steps (items ++ item ∷ []))

pub grows-changes : (changes : List Change) → Grows (each file_changed changes)
grows-changes changes = grows-each file_changed (λ change w. prefix-same w.writes) changes
