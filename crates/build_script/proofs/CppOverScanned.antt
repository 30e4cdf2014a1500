-- The preprocessor over the scanned files alone gives what it gives over the whole tree.
use Rattle.std.proofs.Common.{◌≡◌, ℕ, Bool, true, false, cond, ◌||◌, List, [], ◌∷◌, map, Option, Some, None, Ok, codes, refl, sym, ap, ◌∙◌}
use Rattle.std.specs.Prelude.{is_some, bytes_eq, nat_le, length, unwrap_or, IfSome}
use Rattle.std.specs.List.{AllByRecursion}
use Rattle.std.proofs.lemmas.Option.{none-some}
use Rattle.std.proofs.lemmas.Slice.Eq.{bytes_eq-Decides}
use Rattle.object_name.specs.Name.{ObjectName, max_size}
use Rattle.text_lines.specs.Among.{is_among}
use Rattle.thunk_codec.specs.Card.{card_text}
use Rattle.thunk_codec.specs.Files.{Files, files_at}
use Rattle.thunk_codec.specs.Job.{input_at}
use Rattle.thunk_codec.specs.Path.{is_path}
use Rattle.thunk_codec.specs.Placeholder.{placeholder_of}
use Rattle.thunk_codec.specs.declared.job.Job.{Job}
use Rattle.thunk_codec.specs.declared.job.Outcome.TheVariants.{Failed}
use Rattle.file_tree.specs.Files.{file_read}
use Rattle.file_tree.specs.declared.refusal.FileRefusal.TheVariants as refusals
use Rattle.file_tree.specs.declared.tree.FileRead.TheVariants as reads
use Rattle.tool_text.specs.Cpp.{Settings, no_settings, with_arguments, result_outcome, outcome_with, arguments_outcome, cpp_outcome}
use Rattle.tool_text.specs.Preprocess.{preprocessed}
use Rattle.sandbox_run.specs.Cards.{within_limit, tool_outcome, card_outcome}
use Rattle.include_scan.specs.Scanned.{Suffices, bytes_at, inputs_of}
use Rattle.include_scan.specs.Scanning.{scanned_paths, refusal_of, refusal_of_read}
use Rattle.include_scan.proofs.PublicLaws.{paths_suffice, paths_scanned}
use Rattle.build_plan.specs.declared.plan.Scanning.{Scanning}
use Rattle.build_plan.specs.Doing.{Got, ◌>>=◌, each, give, go_on, unless}
use Rattle.build_plan.specs.Way.{file_input, scanned_stage}
use Rattle.build_script.specs.AtOnce.{Ran, bytes_of, input_bytes, job_by, plain_bytes}
use Rattle.build_script.specs.WholeTree.{whole_with, whole_arguments, cpp_whole, IsCpp}
use Rattle.build_script.proofs.ScannedAlike.{FileLike, Scanned, scanned-like}

alike-self : (x : Option (List ℕ)) → FileLike x x
alike-self None = tt
alike-self (Some x) = λ none. refl

-- an input that is among the files is there
input-there : (files : Files) (paths : List (List ℕ)) (path : List ℕ) → is_among paths path ≡ true → is_some (input_at path (inputs_of files paths)) ≡ true
input-there files [] path h = absurd (cc h)
input-there files (x ∷ paths) path h = by (input-there files paths path) (bytes_eq x path) refl (bytes_eq path x) refl h
  where
    by : (is_among paths path ≡ true → is_some (input_at path (inputs_of files paths)) ≡ true) → (test : Bool) → bytes_eq x path ≡ test → (other : Bool) → bytes_eq path x ≡ other → (other || is_among paths path) ≡ true →
        is_some (cond test (Some (bytes_at files x)) (input_at path (inputs_of files paths))) ≡ true
    by rest true is other o h = refl
    by rest false is true o h = absurd (cc (sym is ∙ (bytes_eq-Decides x path).1 (sym ((bytes_eq-Decides path x).0 o))))
    by rest false is false o h = rest h

-- the card `cpp` is of the preprocessor
card-cpp : (job : Job) → tool_outcome (card_text (codes "cpp")) job ≡ cpp_outcome job
unfolding tool_outcome
card-cpp job = refl

module _ (files : Files) (s : Scanning) (cpp : IsCpp s) (paths : List (List ℕ)) (is : scanned_paths files s.folders s.source ≡ Ok paths) where
  -- the job of the preprocessor with the scanned files
  abbrev job : Job
  job = job_by (scanned_stage s paths) (inputs_of files paths)

  known : Scanned files files (λ path. alike-self (files path)) s.folders s.source paths
  known = scanned-like files files (λ path. alike-self (files path)) s.folders s.source paths cpp.source is

  suffices : Suffices files s.folders s.source paths
  suffices = paths_suffice files s.folders s.source known.visited paths known.visits known.order

  source-among : is_among paths s.source ≡ true
  source-among = (paths_scanned files s.folders s.source known.visited paths known.visits known.order).closed.source_in

  settings-same : (settings : Option Settings) → IfSome settings (λ settings. settings.folders ≡ s.folders) → whole_with files s.source settings ≡ outcome_with job s.source settings
  settings-same None same = refl
  settings-same (Some settings) same =
      ap (λ folders. result_outcome (preprocessed files folders settings.macros s.source)) same
      ∙ ap (λ state. result_outcome state) (sym (suffices settings.macros))
      ∙ ap (λ folders. result_outcome (preprocessed (files_at (inputs_of files paths)) folders settings.macros s.source)) (sym same)

  outcome-same : whole_arguments files (s.source ∷ cpp.over.others) ≡ arguments_outcome job (s.source ∷ cpp.over.others)
  outcome-same =
      settings-same (with_arguments cpp.over.others no_settings) cpp.over.folders_behind
      ∙ ap (λ test. cond test (outcome_with job s.source (with_arguments cpp.over.others no_settings)) (Failed 64)) (sym (input-there files paths s.source source-among))

  pub cpp-same : cpp_whole files s ≡ card_outcome job
  unfolding card_outcome cpp_outcome
  cpp-same =
      ap (λ args. within_limit (whole_arguments files args)) cpp.over.source_first
      ∙ ap within_limit outcome-same
      ∙ ap (λ args. within_limit (arguments_outcome job args)) (sym cpp.over.source_first)
      ∙ ap within_limit (sym (card-cpp job))
      ∙ ap (λ tool. within_limit (tool_outcome (card_text tool) job)) (sym cpp.tool)

-- ---- scanned files are read

-- a file that isn't refused is read for a tool
readable : (path : List ℕ) (file : Option (List ℕ)) → refusal_of path file ≡ None → bytes_of path (file_read file) ≡ Ok (unwrap_or file [])
readable path None is = absurd (none-some _ (sym is))
readable path (Some bytes) is = by_size (nat_le (length bytes) max_size) is
  where
    by_found : (found : Option (ObjectName × ℕ)) → cond (is_some found) (Some (refusals.Generated path)) None ≡ None → plain_bytes path bytes found ≡ Ok bytes
    by_found None e = refl
    by_found (Some output) e = absurd (none-some _ (sym e))

    by_size : (test : Bool) → refusal_of_read path (cond test (reads.Bytes bytes) reads.TooLong) ≡ None → bytes_of path (cond test (reads.Bytes bytes) reads.TooLong) ≡ Ok bytes
    by_size true e = by_found (placeholder_of bytes) e
    by_size false e = absurd (none-some _ (sym e))

-- the file at a path is read for a tool
abbrev IsRead : Files → List ℕ → Type 0
IsRead files path = bytes_of path (file_read (files path)) ≡ Ok (bytes_at files path)

-- so scanned files are the inputs of a job
inputs-read : (files : Files) (paths : List (List ℕ)) → AllByRecursion (IsRead files) paths → (w : Ran) → w.files ≡ files → each (input_bytes []) (map file_input paths) w ≡ Got (inputs_of files paths) w
inputs-read files [] all w is = refl
inputs-read files (path ∷ paths) all w is =
    ap (λ r. go_on (go_on (unless r w) (λ bytes. give (path, bytes))) (λ y. each (input_bytes []) (map file_input paths) >>= λ ys. give (y ∷ ys))) (ap (λ (files : Files). bytes_of path (file_read (files path))) is ∙ all.0)
    ∙ ap (λ e. go_on e (λ ys. give ((path, bytes_at files path) ∷ ys))) (inputs-read files paths all.1 w is)

all-read : (files : Files) (paths : List (List ℕ)) → AllByRecursion (λ path. (files path ≡ files path) × (refusal_of path (files path) ≡ None) × (is_path path ≡ true)) paths → AllByRecursion (IsRead files) paths
all-read files [] all = tt
all-read files (path ∷ paths) all = (readable path (files path) all.0.1, all-read files paths all.1)

-- the scanned files of a source are read
pub scanned-inputs : (files : Files) (s : Scanning) → IsCpp s → (paths : List (List ℕ)) → scanned_paths files s.folders s.source ≡ Ok paths → (w : Ran) → w.files ≡ files
    → each (input_bytes []) (map file_input paths) w ≡ Got (inputs_of files paths) w
scanned-inputs files s cpp paths is w same = inputs-read files paths (all-read files paths (known files s cpp paths is).plain) w same
