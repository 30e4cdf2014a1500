-- Tools are run over inputs that were read.
use Rattle.std.proofs.Common.{◌≡◌, ◌+◌, ◌<◌, ℕ, List, [], ◌∷◌, ◌++◌, length, drop, get_or, map, Option, Some, None, Result, Ok, Err, refl, sym, ap, subst, ◌∙◌}
use Rattle.std.specs.Prelude.{Bool, true, false, nat_le, is_some, codes, if◌then◌else◌}
use Rattle.object_name.specs.Name.{max_size}
use Rattle.thunk_codec.specs.Path.{after_pieces, components_of, is_path, path_of}
use Rattle.file_tree.specs.Files.{Files, file_read}
use Rattle.file_tree.specs.declared.change.Change.{Change}
use Rattle.file_tree.specs.declared.tree.FileRead.TheVariants as reads
use Rattle.include_scan.specs.Scanned.{inputs_of}
use Rattle.include_scan.specs.Scanning.{Visiting, scanned_paths}
use Rattle.include_scan.specs.declared.fault.ScanFault.TheVariants as scans
use Rattle.sandbox_run.specs.Cards.{card_outcome}
use Rattle.build_plan.specs.declared.plan.Scanning.{Scanning}
use Rattle.build_plan.specs.declared.plan.Source.{Source}
use Rattle.build_plan.specs.declared.plan.Source.TheVariants.{File}
use Rattle.build_plan.specs.declared.plan.Stage.{Stage}
use Rattle.build_plan.specs.declared.plan.Step.TheVariants.{Run, Scan}
use Rattle.build_plan.specs.Doing.{Why, Ended, Got, Stopped, Doing, ◌>>=◌, ◌>>◌, give, unless, each}
use Rattle.build_plan.specs.Way.{file_input, optional_input, scanned_or, taken}
use Rattle.build_plan.proofs.FilesAreFound.{next-drop}
use Rattle.build_script.specs.declared.run_fault.RunFault.{RunFault}
use Rattle.build_script.specs.AtOnce.{Ran, bytes_of, input_bytes, job_run, output_by, source_bytes}
use Rattle.build_script.specs.WholeTree.{IsCpp, cpp_whole}
use Rattle.build_script.specs.WorkAtOnce.{Finds, Goes, IsStopped, Leads, Reads, Stops, behind, by_cards, bytes_if_there, job_of, some_bytes, tool_end}
use Rattle.build_script.proofs.BytesAreFound.{by_size, goes-read, is_found, is_refused, not_none, same_ok, stops-read}
use Rattle.build_script.proofs.CppOverScanned.{cpp-same, scanned-inputs}
use Rattle.build_script.proofs.JobsAdded.{each-append, each-end, each-next, each-stop, goes-found, goes-on, goes-same, goes-then, leads-none, leads-on, stops-bind, stops-found, stops-on}

-- `out` is a path
pub out-is_path : is_path (codes "out") ≡ true
unfolding is_path path_of components_of after_pieces
out-is_path = refl

abbrev IsGot : {A : Type 0} → Ended Ran A → Type 0
IsGot (Got x w) = Unit {0}
IsGot (Stopped why w) = ⊥

got_stopped : {A : Type 0} (x : A) (v w : Ran) (why : Why) → ◌≡◌ {A = Ended Ran A} (Got x v) (Stopped why w) → ⊥
got_stopped {A} x v w why is = subst (IsGot {A = A}) is tt

-- what was given, or this
abbrev got_or : {A : Type 0} → A → Ended Ran A → A
got_or other (Got x w) = x
got_or other (Stopped why w) = other

-- ---- inputs

-- an input that was read stands under its path
pub input-read : (items : List (List ℕ)) (input : List ℕ × Source) (bytes : List ℕ) (files : Files) → Goes (source_bytes items input.1) files (Ok bytes) → Goes (input_bytes items input) files (Ok (input.0, bytes))
input-read items input bytes files h =
    goes-then (source_bytes items input.1) (λ bytes. give (input.0, bytes)) bytes files (Ok (input.0, bytes)) h (leads-none (give (input.0, bytes)) (give (input.0, bytes)) files (λ w at. refl))

pub input-stop : (items : List (List ℕ)) (input : List ℕ × Source) (files : Files) (why : Option Why) → Stops (source_bytes items input.1) files why → Stops (input_bytes items input) files why
input-stop items input files why h = stops-bind (source_bytes items input.1) (λ bytes. give (input.0, bytes)) files why h

-- while inputs are read
pub record IsReading {T : Type 0} (tells : Type 0) (files : T → Files) (changes : T → List Change) (calls counts : T → ℕ) (retries : ℕ) (items : List (List ℕ)) (all left : List (List ℕ × Source)) (old now : T) (read : List (List ℕ × List ℕ)) : Type 0 where
  pub goes : tells → Leads (each (input_bytes items) all) (behind (input_bytes items) read left) (files old)
  pub reads : Reads tells files changes calls counts retries old now 0

-- the next of some that are mapped
pub map-drop : {A B : Type 0} (f : A → B) (xs : List A) (i : ℕ) (x : A) → i < length xs → x ≡ get_or xs i x → map f (drop i xs) ≡ f x ∷ map f (drop (i + 1) xs)
map-drop f xs i x within is = ap (map f) (next-drop xs i x within is)

-- one input more of some that are left
pub reading-more : (items : List (List ℕ)) (all later left : List (List ℕ × Source)) (files : Files) (read : List (List ℕ × List ℕ)) (input : List ℕ × Source) (bytes : List ℕ) → left ≡ input ∷ later
    → Leads (each (input_bytes items) all) (behind (input_bytes items) read left) files → Goes (source_bytes items input.1) files (Ok bytes) → Leads (each (input_bytes items) all) (behind (input_bytes items) (read ++ (input.0, bytes) ∷ []) later) files
reading-more items all later left files read input bytes is so_far h =
    leads-on (each (input_bytes items) all) (behind (input_bytes items) read (input ∷ later)) (behind (input_bytes items) (read ++ (input.0, bytes) ∷ []) later) files
    (subst (λ (left : List (List ℕ × Source)). Leads (each (input_bytes items) all) (behind (input_bytes items) read left) files) is so_far)
    (each-next (input_bytes items) read input later (input.0, bytes) files (input-read items input bytes files h))

pub reading-stop : (items : List (List ℕ)) (all later left : List (List ℕ × Source)) (files : Files) (read : List (List ℕ × List ℕ)) (input : List ℕ × Source) (why : Option Why) → left ≡ input ∷ later
    → Leads (each (input_bytes items) all) (behind (input_bytes items) read left) files → Stops (source_bytes items input.1) files why → Stops (each (input_bytes items) all) files why
reading-stop items all later left files read input why is so_far h =
    stops-on (each (input_bytes items) all) (behind (input_bytes items) read (input ∷ later)) files why
    (subst (λ (left : List (List ℕ × Source)). Leads (each (input_bytes items) all) (behind (input_bytes items) read left) files) is so_far)
    (each-stop (input_bytes items) read input later files why (input-stop items input files why h))

-- ---- one input more, if its file is there

module _ (files : Files) (items : List (List ℕ)) (read : List (List ℕ × List ℕ)) (place path : List ℕ) where
  -- by what stands at its path
  abbrev more-by : Option (List ℕ) → List (List ℕ × Source)
  more-by found = if is_some found then (place, File path) ∷ [] else []

  none-by : (found : Option (List ℕ)) → bytes_if_there path (file_read found) ≡ Ok None → more-by found ≡ []
  none-by None e = refl
  none-by (Some bytes) e = absurd (by (nat_le (length bytes) max_size) e)
    where
      by : (test : Bool) → bytes_if_there path (if test then reads.Bytes bytes else reads.TooLong) ≡ Ok None → ⊥
      by true e = not_none _ e
      by false e = cc e

  one-by : (found : Option (List ℕ)) → (bytes_if_there path (file_read found) ≡ Ok None → ⊥) → (more-by found ≡ (place, File path) ∷ []) × (some_bytes (bytes_of path (file_read found)) ≡ bytes_if_there path (file_read found))
  one-by None h = absurd (h refl)
  one-by (Some bytes) h = (refl, sym (by_size path bytes (nat_le (length bytes) max_size)))

  behind-none : Goes (behind (input_bytes items) read []) files (Ok read)
  behind-none = each-end (input_bytes items) read files

  -- it isn't there
  pub optional-none : bytes_if_there path (file_read (files path)) ≡ Ok None → Goes (behind (input_bytes items) read (optional_input files (Some (place, path)))) files (Ok read)
  optional-none e = subst (λ (more : List (List ℕ × Source)). Goes (behind (input_bytes items) read more) files (Ok read)) (sym (none-by (files path) e)) behind-none

  -- it is there
  pub optional-some : (bytes : List ℕ) → bytes_if_there path (file_read (files path)) ≡ Ok (Some bytes) → Goes (behind (input_bytes items) read (optional_input files (Some (place, path)))) files (Ok (read ++ (place, bytes) ∷ []))
  optional-some bytes e =
      let one = one-by (files path) (λ none. cc (sym none ∙ e)) in
      subst (λ (more : List (List ℕ × Source)). Goes (behind (input_bytes items) read more) files (Ok (read ++ (place, bytes) ∷ []))) (sym one.0)
      (goes-on (behind (input_bytes items) read ((place, File path) ∷ [])) (behind (input_bytes items) (read ++ (place, bytes) ∷ []) []) files (Ok (read ++ (place, bytes) ∷ []))
      (each-next (input_bytes items) read (place, File path) [] (place, bytes) files (input-read items (place, File path) bytes files (goes-read files path (Ok bytes) (is_found _ bytes (one.1 ∙ e)))))
      (each-end (input_bytes items) (read ++ (place, bytes) ∷ []) files))

  -- it is refused
  pub optional-stop : (why : Option Why) → IsStopped (bytes_if_there path (file_read (files path))) why → Stops (behind (input_bytes items) read (optional_input files (Some (place, path)))) files why
  optional-stop None e = tt
  optional-stop (Some why) e =
      let one = one-by (files path) (λ none. cc (sym none ∙ e)) in
      subst (λ (more : List (List ℕ × Source)). Stops (behind (input_bytes items) read more) files (Some why)) (sym one.0)
      (each-stop (input_bytes items) read (place, File path) [] files (Some why) (input-stop items (place, File path) files (Some why) (stops-read files path (Some why) (is_refused _ why (one.1 ∙ e)))))

-- no input more is given
pub optional-not : (files : Files) (items : List (List ℕ)) (read : List (List ℕ × List ℕ)) → Goes (behind (input_bytes items) read []) files (Ok read)
optional-not files items read = each-end (input_bytes items) read files

-- ---- all inputs

module _ (items : List (List ℕ)) (inputs more : List (List ℕ × Source)) (files : Files) where
  pub all-then : (read : List (List ℕ × List ℕ)) (r : Result (List (List ℕ × List ℕ)) RunFault) → Goes (each (input_bytes items) inputs) files (Ok read) → Goes (behind (input_bytes items) read more) files r → Goes (each (input_bytes items) (inputs ++ more)) files r
  all-then read r first more_goes =
      goes-same (each (input_bytes items) (inputs ++ more)) (each (input_bytes items) inputs >>= λ read. behind (input_bytes items) read more) files r (λ w at. each-append (input_bytes items) inputs more w)
      (goes-then (each (input_bytes items) inputs) (λ read. behind (input_bytes items) read more) read files r first more_goes)

  pub all-stop : (why : Option Why) → Stops (each (input_bytes items) inputs) files why → Stops (each (input_bytes items) (inputs ++ more)) files why
  all-stop why h =
      stops-on (each (input_bytes items) (inputs ++ more)) (each (input_bytes items) inputs >>= λ read. behind (input_bytes items) read more) files why
      (leads-none (each (input_bytes items) (inputs ++ more)) (each (input_bytes items) inputs >>= λ read. behind (input_bytes items) read more) files (λ w at. each-append (input_bytes items) inputs more w))
      (stops-bind (each (input_bytes items) inputs) (λ read. behind (input_bytes items) read more) files why h)

-- ---- tools

-- a tool's run is noted, and gives its output or stops
pub tool-ends : (tool : List ℕ) (args : List (List ℕ)) (inputs : List (List ℕ × List ℕ)) (target : List ℕ) (files : Files) (r : Result (List ℕ) RunFault) → Finds (output_by target (card_outcome (job_of tool args inputs))) r → Goes (tool_end tool args inputs target) files r
tool-ends tool args inputs target files r found =
    let job = job_of tool args inputs in
    goes-then (job_run job) (λ done. unless (output_by target (card_outcome job))) tt files r (record { jobs = job ∷ []; goes_on = λ w at. refl })
    (goes-found (unless (output_by target (card_outcome job))) (output_by target (card_outcome job)) files r (λ w at. refl) found)

module _ (items : List (List ℕ)) (stage : Stage) (files : Files) where
  abbrev stage_inputs : List (List ℕ × Source)
  stage_inputs = stage.inputs ++ optional_input files stage.optional

  abbrev stage_work : Doing Ran (List ℕ)
  stage_work = each (input_bytes items) stage_inputs >>= λ inputs. tool_end stage.tool stage.args inputs stage.target

  stage-is : (w : Ran) → w.files ≡ files → taken by_cards items (Run stage) w ≡ stage_work w
  stage-is w at = ap (λ (files : Files). (each (input_bytes items) (stage.inputs ++ optional_input files stage.optional) >>= λ inputs. tool_end stage.tool stage.args inputs stage.target) w) at

  pub stage-stop : (why : Option Why) → Stops (each (input_bytes items) stage_inputs) files why → Stops (taken by_cards items (Run stage)) files why
  stage-stop why h =
      stops-on (taken by_cards items (Run stage)) stage_work files why (leads-none (taken by_cards items (Run stage)) stage_work files stage-is)
      (stops-bind (each (input_bytes items) stage_inputs) (λ inputs. tool_end stage.tool stage.args inputs stage.target) files why h)

  pub stage-then : (inputs : List (List ℕ × List ℕ)) (r : Result (List ℕ) RunFault) → Goes (each (input_bytes items) stage_inputs) files (Ok inputs) → Finds (output_by stage.target (card_outcome (job_of stage.tool stage.args inputs))) r
      → Goes (taken by_cards items (Run stage)) files r
  stage-then inputs r first found =
      goes-same (taken by_cards items (Run stage)) stage_work files r stage-is
      (goes-then (each (input_bytes items) stage_inputs) (λ inputs. tool_end stage.tool stage.args inputs stage.target) inputs files r first (tool-ends stage.tool stage.args inputs stage.target files r found))

module _ (items : List (List ℕ)) (s : Scanning) (files : Files) where
  abbrev scanned_at : Doing Ran (List (List ℕ))
  scanned_at = λ w. unless (scanned_or (scanned_paths w.files s.folders s.source)) w

  abbrev after_scan : List (List ℕ) → Doing Ran (List ℕ)
  after_scan paths = by_cards.run_scanned s paths

  at-files : (w : Ran) → w.files ≡ files → scanned_at w ≡ unless (scanned_or (scanned_paths files s.folders s.source)) w
  at-files w at = ap (λ (files : Files). unless (scanned_or (scanned_paths files s.folders s.source)) w) at

  -- the source is refused
  pub scan-stop : (why : Option Why) → IsStopped (scanned_or (scanned_paths files s.folders s.source)) why → Stops (taken by_cards items (Scan s)) files why
  scan-stop why found = stops-bind scanned_at after_scan files why (stops-found scanned_at (scanned_or (scanned_paths files s.folders s.source)) files why at-files found)

  are-scanned : (visited : Visiting) (paths : List (List ℕ)) → scanned_or visited ≡ Ok paths → visited ≡ Ok paths
  are-scanned (Ok found) paths e = ap (λ paths. Ok paths) (same_ok found paths e)
  are-scanned (Err (scans.Refused refusal)) paths e = absurd cc
  are-scanned (Err scans.TooMany) paths e = absurd cc
  are-scanned (Err scans.Failed) paths e = absurd cc
  are-scanned (Err scans.Memory) paths e = absurd cc

  module _ (cpp : IsCpp s) (paths : List (List ℕ)) (found : scanned_or (scanned_paths files s.folders s.source) ≡ Ok paths) where
    is : scanned_paths files s.folders s.source ≡ Ok paths
    is = are-scanned (scanned_paths files s.folders s.source) paths found

    -- reading the scanned files isn't refused
    pub inputs-stop : (why : Option Why) → Stops (each (input_bytes []) (map file_input paths)) files why → Stops (taken by_cards items (Scan s)) files why
    inputs-stop None h = tt
    inputs-stop (Some why) h =
        let w : Ran = record { files = files; changes = []; jobs = [] } in
        absurd (got_stopped _ _ _ _ (sym (scanned-inputs files s cpp paths is w refl) ∙ h.goes_on w refl))

    inputs-are : (inputs : List (List ℕ × List ℕ)) → Goes (each (input_bytes []) (map file_input paths)) files (Ok inputs) → inputs ≡ inputs_of files paths
    inputs-are inputs h =
        let w : Ran = record { files = files; changes = []; jobs = [] } in
        ap (got_or inputs) (sym (h.goes_on w refl) ∙ scanned-inputs files s cpp paths is w refl)

    -- the tool is run over them
    pub scan-then : (inputs : List (List ℕ × List ℕ)) (r : Result (List ℕ) RunFault) → Goes (each (input_bytes []) (map file_input paths)) files (Ok inputs) → Finds (output_by s.target (card_outcome (job_of s.tool s.args inputs))) r
        → Goes (taken by_cards items (Scan s)) files r
    scan-then inputs r first ran =
        goes-then scanned_at after_scan paths files r (goes-found scanned_at (scanned_or (scanned_paths files s.folders s.source)) files (Ok paths) at-files found)
        (goes-same (after_scan paths) (tool_end s.tool s.args (inputs_of files paths) s.target) files r whole
        (tool-ends s.tool s.args (inputs_of files paths) s.target files r (subst (λ inputs. Finds (output_by s.target (card_outcome (job_of s.tool s.args inputs))) r) (inputs-are inputs first) ran)))
      where
        whole : (w : Ran) → w.files ≡ files → after_scan paths w ≡ tool_end s.tool s.args (inputs_of files paths) s.target w
        whole w at =
            ap (λ (now : Files). (job_run (job_of s.tool s.args (inputs_of now paths)) >> unless (output_by s.target (cpp_whole now s))) w) at
            ∙ ap (λ outcome. (job_run (job_of s.tool s.args (inputs_of files paths)) >> unless (output_by s.target outcome)) w) (cpp-same files s cpp paths is)
