-- Work of the symbolic way goes on from earlier work as from the start, and what it wrote and changed is added to that.
use Rattle.std.proofs.Common.{◌≡◌, ℕ, suc, ◌+◌, List, [], ◌∷◌, ◌++◌, map, Option, Some, None, Result, Ok, Err, refl, sym, ap, ◌∙◌, append_assoc, append-nil}
use Rattle.std.proofs.Math.Nat.{add-suc, add-zero}
use Rattle.object_name.specs.Kind.{kind_of}
use Rattle.object_name.specs.Name.{ObjectName, name_of}
use Rattle.object_name.specs.declared.kind.Kind.{Kind}
use Rattle.object_name.specs.declared.kind.Kind.TheVariants as kinds
use Rattle.thunk_codec.specs.Card.{card_text}
use Rattle.thunk_codec.specs.Thunk.{Parts, text_of}
use Rattle.thunk_codec.specs.declared.reference.Ref.TheVariants as refs
use Rattle.blob_store.proofs.PublicLaws.{written-append}
use Rattle.blob_store.specs.Store.{Store, written, other_held, storing}
use Rattle.file_tree.proofs.PublicLaws.{changed-append}
use Rattle.file_tree.specs.Files.{Files, after_change, changed, file_read}
use Rattle.file_tree.specs.declared.change.Change.{Change}
use Rattle.include_scan.specs.Scanning.{scanned_paths}
use Rattle.build_plan.specs.declared.gathered.Gathered.{Gathered}
use Rattle.build_plan.specs.declared.gathered.Gathered.TheVariants.{Plain, Output}
use Rattle.build_plan.specs.declared.plan.Plan.{Plan}
use Rattle.build_plan.specs.declared.plan.Source.{Source}
use Rattle.build_plan.specs.declared.plan.Source.TheVariants.{File, Made}
use Rattle.build_plan.specs.declared.plan.Stage.{Stage}
use Rattle.build_plan.specs.declared.plan.Step.{Step}
use Rattle.build_plan.specs.declared.plan.Step.TheVariants.{Read, Take, Find, Run, Scan}
use Rattle.build_plan.specs.Doing.{Why, Ended, Got, Stopped, Doing, go_on, ◌>>=◌, give, current, unless, each, state_after}
use Rattle.build_plan.specs.Gathered.{item_of}
use Rattle.build_plan.specs.Symbolic.{Work, begun, item_or, read_item, stored_by, stored, value_ref, ref_of_item, source_item, input_ref, thunk_stored, parts_by, thunk_made, file_changed, symbolic}
use Rattle.build_plan.specs.Way.{bytes_or, first_found, found_or, scanned_or, scanned_stage, completed, taken, gathered, change_of, done}

-- some work after other work
abbrev pub after : Work → Work → Work
after base s = record {
  store = s.store;
  writes = base.writes ++ s.writes;
  files = s.files;
  changes = base.changes ++ s.changes;
  thunks = base.thunks + s.thunks;
}

-- how work ends that goes on from other work
abbrev pub moved : {A : Type 0} → Work → Ended Work A → Ended Work A
moved base (Got x s) = Got x (after base s)
moved base (Stopped why s) = Stopped why (after base s)

-- the store is the old one with the writes, and the files are the old ones with the changes
pub record IsMade (old : Store) (tree : Files) (s : Work) : Type 0 where
  pub store : s.store ≡ written old s.writes
  pub files : s.files ≡ changed tree s.changes

-- work goes on from other work, and lists all that it writes and changes
pub record Adds {A : Type 0} (work : Doing Work A) : Type 0 where
  pub moves : (base s : Work) → work (after base s) ≡ moved base (work s)
  pub makes : (old : Store) (tree : Files) (s : Work) → IsMade old tree s → IsMade old tree (state_after (work s))

-- ---- one after another

adds-give : {A : Type 0} (x : A) → Adds (give x)
adds-give x = record { moves = λ base s. refl; makes = λ old tree s made. made }

adds-unless : {A : Type 0} (found : Result A Why) → Adds (unless found)
adds-unless (Ok x) = adds-give x
adds-unless (Err why) = record { moves = λ base s. refl; makes = λ old tree s made. made }

adds-then : {A B : Type 0} (work : Doing Work A) (next : A → Doing Work B) → Adds work → ((x : A) → Adds (next x)) → Adds (work >>= next)
adds-then {A} {B} work next first rest = record {
  moves = λ base s. ap (λ (e : Ended Work A). go_on e next) (first.moves base s) ∙ on base (work s);
  makes = λ old tree s made. ends old tree (work s) (first.makes old tree s made);
}
  where
    on : (base : Work) (e : Ended Work A) → go_on (moved base e) next ≡ moved base (go_on e next)
    on base (Got x t) = (rest x).moves base t
    on base (Stopped why t) = refl

    ends : (old : Store) (tree : Files) (e : Ended Work A) → IsMade old tree (state_after e) → IsMade old tree (state_after (go_on e next))
    ends old tree (Got x t) made = (rest x).makes old tree t made
    ends old tree (Stopped why t) made = made

-- what follows looks at the store and the files alone
adds-current : {B : Type 0} (next : Work → Doing Work B) → ((base s : Work) → next (after base s) ≡ next s) → ((s : Work) → Adds (next s)) → Adds (current >>= next)
adds-current next same all = record {
  moves = λ base s. (λ i. same base s i (after base s)) ∙ (all s).moves base s;
  makes = λ old tree s made. (all s).makes old tree s made;
}

adds-each : {A B : Type 0} (work : A → Doing Work B) → ((x : A) → Adds (work x)) → (xs : List A) → Adds (each work xs)
adds-each work all [] = adds-give []
adds-each work all (x ∷ xs) =
    adds-then (work x) (λ y. each work xs >>= λ ys. give (y ∷ ys)) (all x) (λ y. adds-then (each work xs) (λ ys. give (y ∷ ys)) (adds-each work all xs) (λ ys. adds-give (y ∷ ys)))

-- ---- what a plan does

adds-read : (path : List ℕ) → Adds (read_item path)
adds-read path =
    adds-current (λ (s : Work). unless (item_or (item_of path (file_read (s.files path))))) (λ base s. refl) (λ s. adds-unless (item_or (item_of path (file_read (s.files path)))))

adds-stored_by : (bytes : List ℕ) (found : Option (List ℕ)) → Adds (stored_by bytes found)
adds-stored_by bytes None = record {
  moves = λ base s.
      let more = storing s.store bytes in
      λ i. Got (name_of bytes) (record (after base s) { store = written s.store more; writes = append_assoc base.writes s.writes more i });
  makes = λ old tree s made.
      let more = storing s.store bytes in
      record { store = ap (λ (v : Store). written v more) made.store ∙ sym (written-append old s.writes more); files = made.files };
}
adds-stored_by bytes (Some found) = record { moves = λ base s. refl; makes = λ old tree s made. made }

adds-stored : (bytes : List ℕ) → Adds (stored bytes)
adds-stored bytes = adds-current (λ (s : Work). stored_by bytes (other_held s.store bytes)) (λ base s. refl) (λ s. adds-stored_by bytes (other_held s.store bytes))

adds-value : (bytes : List ℕ) (kind : Kind) → Adds (value_ref bytes kind)
adds-value bytes kinds.Value = adds-then (stored bytes) (λ name. give (refs.Value name)) (adds-stored bytes) (λ name. adds-give (refs.Value name))
adds-value bytes kinds.Thunk = record { moves = λ base s. refl; makes = λ old tree s made. made }

adds-ref : (item : Gathered) → Adds (ref_of_item item)
adds-ref (Plain bytes) = adds-value bytes (kind_of bytes)
adds-ref (Output name index) = adds-give (refs.Out name index)

adds-source : (items : List Gathered) (source : Source) → Adds (source_item items source)
adds-source items (File path) = adds-read path
adds-source items (Made place) = record { moves = λ base s. refl; makes = λ old tree s made. made }

adds-input : (items : List Gathered) (input : List ℕ × Source) → Adds (input_ref items input)
adds-input items input =
    adds-then (source_item items input.1) (λ item. ref_of_item item >>= λ ref. give (input.0, ref)) (adds-source items input.1)
    (λ item. adds-then (ref_of_item item) (λ ref. give (input.0, ref)) (adds-ref item) (λ ref. adds-give (input.0, ref)))

-- one more thunk is counted
abbrev counted : ObjectName → Doing Work ObjectName
counted name = λ s. Got name (record s { thunks = suc s.thunks })

adds-counted : (name : ObjectName) → Adds (counted name)
adds-counted name = record {
  moves = λ base s. λ i. Got name (record (after base s) { thunks = sym (add-suc base.thunks s.thunks) i });
  makes = λ old tree s made. record { store = made.store; files = made.files };
}

adds-thunk : (parts : Parts) → Adds (thunk_stored parts)
adds-thunk parts = adds-then (stored (text_of parts)) counted (adds-stored (text_of parts)) adds-counted

adds-made : (items : List Gathered) (stage : Stage) → Adds (thunk_made items stage)
adds-made items stage =
    adds-then (stored (card_text stage.tool)) (λ card. each (input_ref items) stage.inputs >>= λ inputs. thunk_stored (parts_by stage (refs.Value card) inputs) >>= λ name. give (Output name 0))
    (adds-stored (card_text stage.tool))
    (λ card. adds-then (each (input_ref items) stage.inputs) (λ inputs. thunk_stored (parts_by stage (refs.Value card) inputs) >>= λ name. give (Output name 0))
    (adds-each (input_ref items) (adds-input items) stage.inputs)
    (λ inputs. adds-then (thunk_stored (parts_by stage (refs.Value card) inputs)) (λ name. give (Output name 0)) (adds-thunk (parts_by stage (refs.Value card) inputs)) (λ name. adds-give (Output name 0))))

adds-changed : (change : Change) → Adds (file_changed change)
adds-changed change = record {
  moves = λ base s. λ i. Got tt (record (after base s) { files = after_change s.files change; changes = append_assoc base.changes s.changes (change ∷ []) i });
  makes = λ old tree s made. record {
    store = made.store;
    files = ap (λ (v : Files). after_change v change) made.files ∙ sym (changed-append tree s.changes (change ∷ []));
  };
}

adds-taken : (items : List Gathered) (step : Step) → Adds (taken symbolic items step)
adds-taken items (Read path) = adds-read path
adds-taken items (Take path) =
    adds-current (λ (s : Work). unless (bytes_or path (file_read (s.files path))) >>= λ bytes. give (Plain bytes)) (λ base s. refl)
    (λ s. adds-then (unless (bytes_or path (file_read (s.files path)))) (λ bytes. give (Plain bytes)) (adds-unless (bytes_or path (file_read (s.files path)))) (λ bytes. adds-give (Plain bytes)))
adds-taken items (Find missing places) =
    adds-current (λ (s : Work). unless (found_or missing (first_found s.files places)) >>= read_item) (λ base s. refl)
    (λ s. adds-then (unless (found_or missing (first_found s.files places))) read_item (adds-unless (found_or missing (first_found s.files places))) adds-read)
adds-taken items (Run stage) = adds-current (λ (s : Work). thunk_made items (completed s.files stage)) (λ base s. refl) (λ s. adds-made items (completed s.files stage))
adds-taken items (Scan scanning) =
    adds-current (λ (s : Work). unless (scanned_or (scanned_paths s.files scanning.folders scanning.source)) >>= λ paths. thunk_made [] (scanned_stage scanning paths)) (λ base s. refl)
    (λ s. adds-then (unless (scanned_or (scanned_paths s.files scanning.folders scanning.source))) (λ paths. thunk_made [] (scanned_stage scanning paths))
    (adds-unless (scanned_or (scanned_paths s.files scanning.folders scanning.source))) (λ paths. adds-made [] (scanned_stage scanning paths)))

adds-gathered : (steps : List Step) (items : List Gathered) → Adds (gathered symbolic steps items)
adds-gathered [] items = adds-give items
adds-gathered (step ∷ steps) items =
    adds-then (taken symbolic items step) (λ item. gathered symbolic steps (items ++ item ∷ [])) (adds-taken items step) (λ item. adds-gathered steps (items ++ item ∷ []))

-- a plan
pub adds-done : (plan : Plan) → Adds (done symbolic plan)
adds-done plan =
    adds-then (gathered symbolic plan.steps []) (λ items. each file_changed (map (change_of symbolic items) plan.targets) >>= λ all. give tt) (adds-gathered plan.steps [])
    (λ items. adds-then (each file_changed (map (change_of symbolic items) plan.targets)) (λ all. give tt) (adds-each file_changed adds-changed (map (change_of symbolic items) plan.targets)) (λ all. adds-give tt))

-- work is itself after the start
pub after-begun : (s : Work) → after s (begun s.store s.files) ≡ s
after-begun s = λ i. record s { writes = append-nil s.writes i; changes = append-nil s.changes i; thunks = add-zero s.thunks i }
