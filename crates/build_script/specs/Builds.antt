-- Builds: plans done one after another, each in the tree that the one before leaves.
use Rattle.std.specs.Prelude.{List, [], ◌∷◌}
use Rattle.thunk_codec.specs.declared.job.Job.{Job}
use Rattle.thunk_codec.specs.declared.job.Outcome.{Outcome}
use Rattle.blob_store.specs.Store.{Store}
use Rattle.file_tree.specs.Files.{Files}
use Rattle.build_plan.specs.declared.plan.Plan.{Plan}
use Rattle.build_plan.specs.declared.plan.Scanning.{Scanning}
use Rattle.build_plan.specs.Doing.{Ended, Doing, ◌>>◌, give}
use Rattle.build_plan.specs.Symbolic.{Work, begun, symbolic}
use Rattle.build_plan.specs.Way.{Way, done}
use Rattle.build_script.specs.AtOnce.{Ran, not_run, at_once}

-- the plans of a build, by one way of doing them
abbrev pub built : {S A : Type 0} → Way S A → List Plan → Doing S (Unit {0})
built way [] = give tt
built way (plan ∷ plans) = do
  done way plan
  built way plans

-- a build inferred: thunks are stored, and no tool is run
abbrev pub inferred : List Plan → Store → Files → Ended Work (Unit {0})
inferred plans store files = built symbolic plans (begun store files)

-- a build at once: each tool is run, by what tools give
abbrev pub built_at_once : (Job → Outcome) → (Files → Scanning → Outcome) → List Plan → Files → Ended Ran (Unit {0})
built_at_once outcome whole plans files = built (at_once outcome whole) plans (not_run files)
