-- What the law on builds asks of a plan.
use Rattle.std.specs.Prelude.{◌≡◌, ℕ, List, Bool, true, false, Option, Some, None, Ok, slice_get}
use Rattle.std.specs.List.{AllByRecursion}
use Rattle.thunk_codec.specs.declared.job.Job.{Job}
use Rattle.thunk_codec.specs.declared.job.Outcome.{Outcome}
use Rattle.thunk_codec.specs.Path.{is_path}
use Rattle.file_tree.specs.Files.{Files}
use Rattle.include_scan.specs.Scanned.{inputs_of}
use Rattle.include_scan.specs.Scanning.{scanned_paths}
use Rattle.build_plan.specs.declared.plan.Plan.{Plan}
use Rattle.build_plan.specs.declared.plan.Scanning.{Scanning}
use Rattle.build_plan.specs.declared.plan.Source.{Source}
use Rattle.build_plan.specs.declared.plan.Source.TheVariants.{File, Made}
use Rattle.build_plan.specs.declared.plan.Step.{Step}
use Rattle.build_plan.specs.declared.plan.Step.TheVariants.{Read, Take, Find, Run, Scan}
use Rattle.build_plan.specs.Fitting.{IsFitPlan}
use Rattle.build_plan.specs.Way.{scanned_stage}
use Rattle.build_script.specs.AtOnce.{job_by}

-- whether there is a step and it takes the bytes of a file as they are
abbrev pub is_take : Option Step → Bool
is_take None = false
is_take (Some (Read path)) = false
is_take (Some (Take path)) = true
is_take (Some (Find missing places)) = false
is_take (Some (Run stage)) = false
is_take (Some (Scan scanning)) = false

-- an input isn't what one of some steps takes: that may be the bytes of a placeholder, which are no input of a tool
abbrev pub IsUntaken : List Step → Source → Type 0
IsUntaken steps (File path) = Unit {0}
IsUntaken steps (Made place) = is_take (slice_get steps place) ≡ false

-- a tool isn't given what one of some steps takes
abbrev pub GivesUntaken : List Step → Step → Type 0
GivesUntaken steps (Read path) = Unit {0}
GivesUntaken steps (Take path) = Unit {0}
GivesUntaken steps (Find missing places) = Unit {0}
GivesUntaken steps (Run stage) = AllByRecursion (λ input. IsUntaken steps input.1) stage.inputs
GivesUntaken steps (Scan scanning) = Unit {0}

-- a tool that sees the whole tree gives over a source what it gives where its inputs are the scanned files alone
pub record SeesEnough (outcome : Job → Outcome) (whole : Files → Scanning → Outcome) (s : Scanning) : Type 0 where
  pub source : is_path s.source ≡ true
  pub same : (files : Files) (paths : List (List ℕ)) → scanned_paths files s.folders s.source ≡ Ok paths
      → whole files s ≡ outcome (job_by (scanned_stage s paths) (inputs_of files paths))

-- the same of a step, if it scans
abbrev pub ScansEnough : (Job → Outcome) → (Files → Scanning → Outcome) → Step → Type 0
ScansEnough outcome whole (Read path) = Unit {0}
ScansEnough outcome whole (Take path) = Unit {0}
ScansEnough outcome whole (Find missing places) = Unit {0}
ScansEnough outcome whole (Run stage) = Unit {0}
ScansEnough outcome whole (Scan scanning) = SeesEnough outcome whole scanning

-- a plan suits what tools give: its thunks keep a thunk's rules, no tool is given what a step takes, and the scanned files of a source are
-- enough
pub record Suits (outcome : Job → Outcome) (whole : Files → Scanning → Outcome) (plan : Plan) : Type 0 where
  pub fit : IsFitPlan plan
  pub untaken : AllByRecursion (GivesUntaken plan.steps) plan.steps
  pub scans : AllByRecursion (ScansEnough outcome whole) plan.steps
