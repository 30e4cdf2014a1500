-- The preprocessor over the whole tree.
use Rattle.std.specs.Prelude.{◌≡◌, ℕ, List, [], ◌∷◌, true, Option, Some, None, codes}
use Rattle.thunk_codec.specs.declared.job.Outcome.{Outcome}
use Rattle.thunk_codec.specs.declared.job.Outcome.TheVariants.{Failed}
use Rattle.thunk_codec.specs.Path.{is_path}
use Rattle.file_tree.specs.Files.{Files}
use Rattle.tool_text.specs.Cpp.{Settings, no_settings, with_arguments, result_outcome}
use Rattle.tool_text.specs.Preprocess.{preprocessed}
use Rattle.sandbox_run.specs.Cards.{within_limit}
use Rattle.include_scan.specs.Scanned.{IsOver}
use Rattle.build_plan.specs.declared.plan.Scanning.{Scanning}
use Rattle.build_plan.specs.declared.plan.Step.{Step}
use Rattle.build_plan.specs.declared.plan.Step.TheVariants.{Read, Take, Find, Run, Scan}

-- the outcome of preprocessing a source with settings, where the arguments gave some
abbrev pub whole_with : Files → List ℕ → Option Settings → Outcome
whole_with files source None = Failed 64
whole_with files source (Some settings) = result_outcome (preprocessed files settings.folders settings.macros source)

-- the first argument is the path of the source
abbrev pub whole_arguments : Files → List (List ℕ) → Outcome
whole_arguments files [] = Failed 64
whole_arguments files (source ∷ args) = whole_with files source (with_arguments args no_settings)

-- the preprocessor with all files in place of its inputs
abbrev pub cpp_whole : Files → Scanning → Outcome
cpp_whole files s = within_limit (whole_arguments files s.args)

-- the preprocessor is run over the source that is scanned, with the same include folders
pub record IsCpp (s : Scanning) : Type 0 where
  pub tool : s.tool ≡ codes "cpp"
  pub source : is_path s.source ≡ true
  pub over : IsOver s.folders s.source s.args

-- a step that scans is of the preprocessor
abbrev pub ScansForCpp : Step → Type 0
ScansForCpp (Read path) = Unit {0}
ScansForCpp (Take path) = Unit {0}
ScansForCpp (Find missing places) = Unit {0}
ScansForCpp (Run stage) = Unit {0}
ScansForCpp (Scan scanning) = IsCpp scanning
