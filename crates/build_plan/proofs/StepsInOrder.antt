-- Steps of plans, one after another.
use Rattle.std.proofs.Common.{◌≡◌, ◌≤◌, ◌+◌, ◌<◌, ℕ, zero, suc, List, [], ◌∷◌, ◌++◌, Result, Ok, Err, length, drop, get_or, map, refl, sym, ap, subst, ◌∙◌, append-nil, arith}
use Rattle.std.proofs.lemmas.List.Elements.{All-push}
use Rattle.std.specs.Prelude.{min, All, codes, true}
use Rattle.thunk_codec.specs.Path.{after_pieces, components_of, is_path, path_of}
use Rattle.object_name.specs.Causes.{TriesAtMost}
use Rattle.blob_store.specs.Store.{Store, Write}
use Rattle.blob_store.specs.Keeping.{Kept, kept}
use Rattle.file_tree.specs.Files.{Files, Filed, filed_in}
use Rattle.file_tree.specs.declared.change.Change.{Change}
use Rattle.file_tree.specs.declared.model_fault.ApplyFault.{ApplyFault}
use Rattle.thunk_codec.specs.Fitting.{AreFit}
use Rattle.thunk_codec.specs.Card.{card_text}
use Rattle.thunk_codec.specs.declared.reference.Ref.{Ref}
use Rattle.thunk_codec.specs.declared.reference.Ref.TheVariants as named
use Rattle.object_name.specs.Name.{ObjectName}
use Rattle.include_scan.specs.Scanning.{ScanCause, StopsSo, Visiting, scanned_paths, scan_failures}
use Rattle.include_scan.specs.declared.fault.ScanFault.{ScanFault}
use Rattle.include_scan.specs.declared.fault.ScanFault.TheVariants as scans
use Rattle.build_plan.specs.declared.gathered.Gathered.{Gathered}
use Rattle.build_plan.specs.declared.gathered.Gathered.TheVariants.{Output}
use Rattle.build_plan.specs.declared.plan.Scanning.{Scanning}
use Rattle.build_plan.specs.declared.plan.Source.{Source}
use Rattle.build_plan.specs.declared.plan.Stage.{Stage}
use Rattle.build_plan.specs.declared.plan.Step.{Step}
use Rattle.build_plan.specs.declared.plan.Step.TheVariants.{Run, Scan}
use Rattle.build_plan.specs.Doing.{Doing, ◌>>=◌, give, unless, each}
use Rattle.build_plan.specs.Symbolic.{Work, input_ref, one_output, stored, symbolic, thunk_made, thunk_stored}
use Rattle.build_plan.specs.Way.{file_input, gathered, optional_input, scanned_or, scanned_stage, taken}
use Rattle.std.specs.List.{AllByRecursion}
use Rattle.build_plan.specs.Fitting.{IsFitStep}
use Rattle.build_plan.specs.Applying.{Sides, sides}
use Rattle.build_plan.specs.StepContracts.{Fares, FaresFiles, Finds, Goes, IsCutOff, IsItem, Leads, between, fault_of_scan, parts_with, stage_of, stage_output}
use Rattle.build_plan.proofs.WritesGrow.{Grows, grows-bind, grows-gathered, grows-give, grows-inputs, grows-thunk_made, grows-thunk_stored, grows-unless}
use Rattle.build_plan.proofs.WorkGoesOn.{cut-then, goes-bind, goes-found, goes-on, goes-same, goes-then, leads-bind, leads-cut, leads-on}
use Rattle.build_plan.proofs.FilesAreFound.{next-drop}

-- ---- a stage

-- `out` is a path
pub out-is_path : is_path (codes "out") ≡ true
unfolding is_path path_of components_of after_pieces
out-is_path = refl

module _ (items : List Gathered) (tool : List ℕ) (args : List (List ℕ)) (inputs : List (List ℕ × Source)) (target : List ℕ) where
  -- what follows the card
  abbrev after_card : ObjectName → Doing Work Gathered
  after_card card = each (input_ref items) inputs >>= λ refs. stage_output (parts_with (named.Value card) args [] refs one_output)

  grows-output : (card : ObjectName) (refs : List (List ℕ × Ref)) → Grows (stage_output (parts_with (named.Value card) args [] refs one_output))
  grows-output card refs = grows-bind (thunk_stored (parts_with (named.Value card) args [] refs one_output)) (λ name. give (Output name 0)) (grows-thunk_stored (parts_with (named.Value card) args [] refs one_output)) (λ name. grows-give (Output name 0))

  grows-after : (card : ObjectName) → Grows (after_card card)
  grows-after card = grows-bind (each (input_ref items) inputs) (λ refs. stage_output (parts_with (named.Value card) args [] refs one_output)) (grows-inputs items inputs) (grows-output card)

  -- the card isn't stored
  pub stage-no_card : (s : Sides) (fault : ApplyFault) → Goes (stored (card_text tool)) 0 s (Err fault) → Goes (thunk_made items (stage_of tool args inputs target)) 1 s (Err fault)
  stage-no_card s fault h = goes-bind (stored (card_text tool)) after_card 0 1 s fault grows-after h

  module _ (a b c d : Kept) (f g h : Filed) (card : ObjectName) (first : Goes (stored (card_text tool)) 0 (between a b f f) (Ok card)) where
    -- an input isn't
    pub stage-no_input : (fault : ApplyFault) → Goes (each (input_ref items) inputs) 0 (between b c f g) (Err fault) → Goes (thunk_made items (stage_of tool args inputs target)) 1 (between a c f g) (Err fault)
    stage-no_input fault h =
        goes-then (stored (card_text tool)) after_card card 0 1 a b c f f g (Err fault) first
        (goes-bind (each (input_ref items) inputs) (λ refs. stage_output (parts_with (named.Value card) args [] refs one_output)) 0 1 (between b c f g) fault (grows-output card) h)

    -- all are
    pub stage-stored : (refs : List (List ℕ × Ref)) (r : Result Gathered ApplyFault) → Goes (each (input_ref items) inputs) 0 (between b c f g) (Ok refs)
        → Goes (stage_output (parts_with (named.Value card) args [] refs one_output)) 1 (between c d g h) r → Goes (thunk_made items (stage_of tool args inputs target)) 1 (between a d f h) r
    stage-stored refs r second third =
        goes-then (stored (card_text tool)) after_card card 0 1 a b d f f h r first
        (goes-then (each (input_ref items) inputs) (λ refs. stage_output (parts_with (named.Value card) args [] refs one_output)) refs 0 1 b c d f g h r second third)

-- ---- a scanned source

-- why scanning stops
pub scan-finds : (wanted : Visiting) (fault : ScanFault) → StopsSo wanted fault → Finds (scanned_or wanted) (Err (fault_of_scan fault))
scan-finds wanted (scans.Refused refusal) e = ap scanned_or e
scan-finds wanted scans.TooMany e = ap scanned_or e
scan-finds wanted scans.Failed e = tt
scan-finds wanted scans.Memory e = tt

pub scan-fares : {T : Type 0} (X A : Type 0) (tells : Type 0) (calls counts : T → ℕ) (retries : ℕ) (old now : T) (fault : ScanFault) → counts old ≤ counts now → ScanCause {X = X} retries (counts old) (counts now) (Err fault)
    → (tells → TriesAtMost retries calls counts old now (scan_failures {X = X} (Err fault))) → FaresFiles {A = A} tells calls counts retries old now (Err (fault_of_scan fault))
scan-fares X A tells calls counts retries old now (scans.Refused refusal) later cause tries = record { only = tt; later = later; cause = tt; tries = tries }
scan-fares X A tells calls counts retries old now scans.TooMany later cause tries = record { only = tt; later = later; cause = tt; tries = tries }
scan-fares X A tells calls counts retries old now scans.Failed later cause tries = record { only = tt; later = later; cause = cause; tries = tries }
scan-fares X A tells calls counts retries old now scans.Memory later cause tries = record { only = tt; later = later; cause = tt; tries = tries }

module _ (items : List Gathered) (scanning : Scanning) where
  abbrev scanned_at : Doing Work (List (List ℕ))
  scanned_at = λ w. unless (scanned_or (scanned_paths w.files scanning.folders scanning.source)) w

  abbrev after_scan : List (List ℕ) → Doing Work Gathered
  after_scan paths = thunk_made [] (scanned_stage scanning paths)

  grows-scan : (paths : List (List ℕ)) → Grows (after_scan paths)
  grows-scan paths = grows-thunk_made [] (scanned_stage scanning paths)

  module _ (a b : Kept) (f g h : Filed) (same : g ≡ f) where
    goes-scanned : (r : Result (List (List ℕ)) ApplyFault) → Finds (scanned_or (scanned_paths f.files scanning.folders scanning.source)) r → Goes scanned_at 0 (between a a f g) r
    goes-scanned r found =
        goes-found scanned_at (scanned_or (scanned_paths f.files scanning.folders scanning.source)) a f g r same (λ w. grows-unless (scanned_or (scanned_paths w.files scanning.folders scanning.source)) w)
        (λ w is. ap (λ (files : Files). unless (scanned_or (scanned_paths files scanning.folders scanning.source)) w) is) found

    pub scan-stop : (fault : ApplyFault) → Finds (scanned_or (scanned_paths f.files scanning.folders scanning.source)) (Err fault) → Goes (taken symbolic items (Scan scanning)) 1 (between a a f g) (Err fault)
    scan-stop fault found = goes-bind scanned_at after_scan 0 1 (between a a f g) fault grows-scan (goes-scanned (Err fault) found)

    pub scan-cut : (paths : List (List ℕ)) → Finds (scanned_or (scanned_paths f.files scanning.folders scanning.source)) (Ok paths) → IsCutOff (taken symbolic items (Scan scanning)) (between a a f g)
    scan-cut paths found = cut-then scanned_at after_scan paths 0 (between a a f g) (grows-scan paths) (goes-scanned (Ok paths) found)

    pub scan-then : (paths : List (List ℕ)) (inputs : List (List ℕ × Source)) (r : Result Gathered ApplyFault) → Finds (scanned_or (scanned_paths f.files scanning.folders scanning.source)) (Ok paths) → inputs ≡ map file_input paths
        → Goes (thunk_made [] (stage_of scanning.tool scanning.args (inputs ++ []) scanning.target)) 1 (between a b g h) r → Goes (taken symbolic items (Scan scanning)) 1 (between a b f h) r
    scan-then paths inputs r found is goes =
        goes-then scanned_at after_scan paths 0 1 a a b f g h r (goes-scanned (Ok paths) found)
        (subst (λ (inputs : List (List ℕ × Source)). Goes (thunk_made [] (stage_of scanning.tool scanning.args inputs scanning.target)) 1 (between a b g h) r) (append-nil inputs ∙ is) goes)

-- the inputs of scanned files have the files' paths
pub scanned-paths : (paths : List (List ℕ)) → map (λ input. input.0) (map file_input paths) ≡ paths
scanned-paths [] = refl
scanned-paths (path ∷ paths) = ap (λ (l : List (List ℕ)). path ∷ l) (scanned-paths paths)

pub scanned-fits : (args paths : List (List ℕ)) (inputs : List (List ℕ × Source)) → inputs ≡ map file_input paths → AreFit args [] paths one_output → AreFit args [] (map (λ input. input.0) (inputs ++ [])) one_output
scanned-fits args paths inputs is fits =
    subst (λ (paths : List (List ℕ)). AreFit args [] paths one_output) (sym (ap (λ (inputs : List (List ℕ × Source)). map (λ input. input.0) inputs) (append-nil inputs ∙ is) ∙ scanned-paths paths)) fits

-- ---- a stage of a plan

pub run-step : (items : List Gathered) (stage : Stage) (a b : Kept) (f g : Filed) (r : Result Gathered ApplyFault)
    → Goes (thunk_made items (stage_of stage.tool stage.args (stage.inputs ++ optional_input f.files stage.optional) stage.target)) 1 (between a b f g) r → Goes (taken symbolic items (Run stage)) 1 (between a b f g) r
run-step items stage a b f g r h =
    goes-same (taken symbolic items (Run stage)) (thunk_made items (stage_of stage.tool stage.args (stage.inputs ++ optional_input f.files stage.optional) stage.target)) 1 (between a b f g) r
    (λ w at. ap (λ (files : Files). thunk_made items (stage_of stage.tool stage.args (stage.inputs ++ optional_input files stage.optional) stage.target) w) at.files) h

-- ---- while steps are taken

module _ (steps : List Step) (a b c : Kept) (f g h : Filed) (i : ℕ) (items : List Gathered) (number : ℕ) (so_far : Leads (gathered symbolic steps []) (gathered symbolic (drop i steps) items) number (between a b f g)) (step : Step) (within : i < length steps) (is : step ≡ get_or steps i step) where
  abbrev later : List Step
  later = drop (i + 1) steps

  stands : Leads (gathered symbolic steps []) (gathered symbolic (step ∷ later) items) number (between a b f g)
  stands = subst (λ (left : List Step). Leads (gathered symbolic steps []) (gathered symbolic left items) number (between a b f g)) (next-drop steps i step within is) so_far

  abbrev go : Gathered → Doing Work (List Gathered)
  go item = gathered symbolic later (items ++ item ∷ [])

  pub steps-more : (thunks : ℕ) (item : Gathered) → Goes (taken symbolic items step) thunks (between b c g h) (Ok item) → Leads (gathered symbolic steps []) (gathered symbolic later (items ++ item ∷ [])) (number + thunks) (between a c f h)
  steps-more thunks item goes =
      leads-on (gathered symbolic steps []) (gathered symbolic (step ∷ later) items) number a b c f g h stands (go item) thunks (leads-bind (taken symbolic items step) go item thunks (between b c g h) goes)

  pub steps-stop : (thunks : ℕ) (fault : ApplyFault) → Goes (taken symbolic items step) thunks (between b c g h) (Err fault) → Goes (gathered symbolic steps []) (number + 0) (between a c f h) (Err fault)
  steps-stop thunks fault goes =
      goes-on (gathered symbolic steps []) (gathered symbolic (step ∷ later) items) number a b c f g h stands 0 (Err fault)
      (goes-bind (taken symbolic items step) go thunks 0 (between b c g h) fault (λ item. grows-gathered later (items ++ item ∷ [])) goes)

  pub steps-cut : (thunks : ℕ) (item : Gathered) → Goes (taken symbolic items step) thunks (between b c g h) (Ok item) → IsCutOff (gathered symbolic steps []) (between a c f h)
  steps-cut thunks item goes =
      leads-cut (gathered symbolic steps []) (go item) (number + thunks) (between a c f h) (steps-more thunks item goes) (grows-gathered later (items ++ item ∷ []))

-- the first steps are taken, and their thunks counted
pub record HasTaken (steps : List Step) (i : ℕ) (items : List Gathered) (thunks : ℕ) (s : Sides) : Type 0 where
  pub number : ℕ
  pub counted : thunks ≡ min number 4294967295
  pub leads : Leads (gathered symbolic steps []) (gathered symbolic (drop i steps) items) number s

pub counted-more : (thunks number more : ℕ) → thunks ≡ min number 4294967295 → min (thunks + more) 4294967295 ≡ min (number + more) 4294967295
counted-more thunks number more h = omega (arith, h)

pub record IsTaking {K T : Type 0} (kept_tells files_tell : Type 0) (store : K → Store) (writes : K → List Write) (files : T → Files) (changes : T → List Change) (kept_calls kept_counts : K → ℕ) (file_calls file_counts : T → ℕ) (retries : ℕ)
    (steps : List Step) (keeper_old keeper : K) (tree_old tree : T) (i : ℕ) (items : List Gathered) (thunks : ℕ) : Type 0 where
  pub taken : kept_tells → files_tell → HasTaken steps i items thunks (sides (kept store writes) (filed_in files changes) keeper_old keeper tree_old tree)
  pub all : All IsItem items
  pub fares : Fares {A = Unit {0}} kept_tells files_tell kept_calls kept_counts file_calls file_counts retries keeper_old keeper tree_old tree (Ok tt)

-- one item more
pub items-more : (items more : List Gathered) (item : Gathered) → more ≡ items ++ item ∷ [] → All IsItem items → IsItem item → All IsItem more
items-more items more item is all one = subst (λ items. All IsItem items) (sym is) (All-push IsItem items item all one)

-- each step fits
pub fit-step : (steps : List Step) (i : ℕ) (step : Step) → AllByRecursion IsFitStep steps → i < length steps → step ≡ get_or steps i step → IsFitStep step
fit-step [] i step h low is = absurd (omega (arith, low))
fit-step (x ∷ steps) zero step h low is = subst IsFitStep (sym is) h.0
fit-step (x ∷ steps) (suc i) step h low is = fit-step steps i step h.1 (omega (arith, low)) is
