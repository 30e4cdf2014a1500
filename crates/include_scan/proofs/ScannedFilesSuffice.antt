-- The scanned files alone, as the inputs of a job, give what all files give.
use Rattle.std.proofs.Common.{◌≡◌, ℕ, List, [], ◌∷◌, true, false, ◌||◌, Option, Some, None, Ok, IsTrue, length, refl, sym, ap, subst, ◌∙◌}
use Rattle.std.specs.Prelude.{bytes_eq, unwrap_or, ◌==◌, IfSome, if◌then◌else◌}
use Rattle.std.specs.Option.{is_some}
use Rattle.std.proofs.lemmas.Bool.{false≢true}
use Rattle.std.proofs.lemmas.Slice.Eq.{bytes_eq-Decides}
use Rattle.std.proofs.Math.Path.{fun_ext}
use Rattle.thunk_codec.proofs.PublicLaws.{bytes_eq-self}
use Rattle.thunk_codec.specs.declared.job.Job.{Job}
use Rattle.thunk_codec.specs.declared.job.Outcome.TheVariants.{Failed}
use Rattle.thunk_codec.specs.Job.{input_at}
use Rattle.thunk_codec.specs.Files.{Files, files_of}
use Rattle.tool_text.specs.Cpp.{Settings, no_settings, with_arguments, result_outcome, outcome_with, arguments_outcome, cpp_outcome}
use Rattle.tool_text.specs.Preprocess.{preprocessed}
use Rattle.text_lines.specs.Among.{is_among}
use Rattle.include_scan.specs.Scanned.{IsClosed, IsScanned, Suffices, AreThere, IsOver, SufficesForJobs, bytes_at, inputs_of, only, with_inputs}
use Rattle.include_scan.specs.Scanning.{IsInOrder, scan_of}
use Rattle.include_scan.proofs.ClosedSetSuffices.{preprocessed_agree}
use Rattle.include_scan.proofs.VisitedGrow.{HoldsOk, AllIn, exists, on_bool, or_first, or_second}
use Rattle.include_scan.proofs.ScanIsLeastClosedSet.{IsFoundAll, scan_goes}

some_there : (file : Option (List ℕ)) → is_some file ≡ true → Some (unwrap_or file []) ≡ file
some_there None there = absurd (false≢true there)
some_there (Some bytes) there = refl

differ : (first second : List ℕ) → bytes_eq first second ≡ false → bytes_eq second first ≡ false
differ first second is_not = on_bool (bytes_eq second first) (λ test. test ≡ false)
    (λ is. absurd (false≢true (sym is_not ∙ (bytes_eq-Decides first second).1 (sym ((bytes_eq-Decides second first).0 is))))) (λ _. refl)

module _ (files : Files) (folders : List (List ℕ)) (source : List ℕ) where
  head_among : (path : List ℕ) (paths : List (List ℕ)) → IsTrue (is_among (path ∷ paths) path)
  head_among path paths = or_first _ _ (bytes_eq-self path)

  head_only : (path : List ℕ) (paths : List (List ℕ)) → IsTrue (is_some (files path)) → Some (bytes_at files path) ≡ only (is_among (path ∷ paths)) files path
  head_only path paths there = some_there (files path) there ∙ sym (ap (λ test. if test then files path else None) (head_among path paths))

  -- the inputs at some paths are the files at these paths
  inputs_only : (paths : List (List ℕ)) → AllIn files folders source (exists files folders source) paths → (path : List ℕ)
      → input_at path (inputs_of files paths) ≡ only (is_among paths) files path
  inputs_only [] all path = refl
  inputs_only (first ∷ paths) all path =
      on_bool (bytes_eq first path) (λ test. (if test then Some (bytes_at files first) else input_at path (inputs_of files paths)) ≡ only (is_among (first ∷ paths)) files path)
      (λ is. subst (λ path. Some (bytes_at files first) ≡ only (is_among (first ∷ paths)) files path) ((bytes_eq-Decides first path).0 is)
      (head_only first paths (all first (head_among first paths))))
      (λ is_not. inputs_only paths (λ other among. all other (or_second _ _ among)) path
      ∙ sym (ap (λ test. if test || is_among paths path then files path else None) (differ first path is_not)))

  module _ (paths : List (List ℕ)) (closed : IsClosed files folders source (is_among paths)) (all : AreThere files paths) where
    -- the files of a closed set that are all there suffice
    pub closed_suffice : Suffices files folders source paths
    closed_suffice macros =
        ap (λ some. preprocessed some folders macros source) (fun_ext (inputs_only paths all)) ∙ preprocessed_agree files folders source (is_among paths) closed macros

    module _ (job : Job) (is : (path : List ℕ) → files_of job path ≡ files path) where
      abbrev pub few : Job
      few = with_inputs job (inputs_of files paths)

      result_same : (settings : Settings) → settings.folders ≡ folders
          → preprocessed (files_of few) settings.folders settings.macros source ≡ preprocessed (files_of job) settings.folders settings.macros source
      result_same settings same =
          ap (λ some. preprocessed (files_of few) some settings.macros source) same
          ∙ (closed_suffice settings.macros
          ∙ (ap (λ some. preprocessed files some settings.macros source) (sym same)
          ∙ ap (λ some. preprocessed some settings.folders settings.macros source) (sym (fun_ext is))))

      outcome_same : (settings : Option Settings) → IfSome settings (λ settings. settings.folders ≡ folders) → outcome_with few source settings ≡ outcome_with job source settings
      outcome_same None same = refl
      outcome_same (Some settings) same = ap result_outcome (result_same settings same)

      -- the source is an input of both
      source_same : input_at source (inputs_of files paths) ≡ input_at source job.inputs
      source_same = inputs_only paths all source ∙ (ap (λ test. if test then files source else None) closed.source_in ∙ sym (is source))

      arguments_same : (others : List (List ℕ)) → IfSome (with_arguments others no_settings) (λ settings. settings.folders ≡ folders)
          → arguments_outcome few (source ∷ others) ≡ arguments_outcome job (source ∷ others)
      arguments_same others same =
          ap (λ file. if is_some file then outcome_with few source (with_arguments others no_settings) else Failed 64) source_same
          ∙ ap (λ outcome. if is_some (input_at source job.inputs) then outcome else Failed 64) (outcome_same (with_arguments others no_settings) same)

      -- and so for jobs
      pub closed_suffice_for_jobs : IsOver folders source job.args → cpp_outcome few ≡ cpp_outcome job
      unfolding cpp_outcome
      closed_suffice_for_jobs over =
          ap (λ outcome. if length job.outputs == 1 then outcome else Failed 64)
          (ap (arguments_outcome few) over.source_first ∙ (arguments_same over.others over.folders_behind ∙ sym (ap (arguments_outcome job) over.source_first)))

  module _ (visited paths : List (List ℕ)) (is : scan_of files folders source ≡ Ok visited) (in_order : IsInOrder visited paths) where
    same_set : is_among paths ≡ is_among visited
    same_set = fun_ext in_order.same

    what_is_found : IsFoundAll files folders source visited
    what_is_found = subst (HoldsOk (IsFoundAll files folders source)) is (scan_goes files folders source)

    -- the paths in order are the scanned files
    pub paths_scanned : IsScanned files folders source (is_among paths)
    paths_scanned = subst (IsScanned files folders source) (sym same_set) what_is_found.scanned

    -- all of them are there
    pub paths_there : AreThere files paths
    paths_there path among = what_is_found.there path (sym (in_order.same path) ∙ among)

    -- and suffice
    pub paths_suffice : Suffices files folders source paths
    paths_suffice = closed_suffice paths paths_scanned.closed paths_there

    -- for jobs too
    pub paths_suffice_for_jobs : SufficesForJobs files folders source paths
    paths_suffice_for_jobs = closed_suffice_for_jobs paths paths_scanned.closed paths_there
