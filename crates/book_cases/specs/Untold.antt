-- A function of which nothing is told.
use Rattle.std.proofs.Common.{arith}
use Rattle.std.specs.Prelude.{◌≤◌}
use Rattle.thunk_codec.specs.declared.job.Job.{Job}
use Rattle.thunk_codec.specs.declared.job.Outcome.{Outcome}
use Rattle.thunk_codec.specs.declared.job.Outcome.TheVariants.{Failed}
use Rattle.thunk_codec.specs.Outcome.{Fits}

-- the outcome of no job is told
abbrev pub none_told : Job → Type 0
none_told job = ⊥

-- an outcome that fits each job
abbrev pub some_outcome : Job → Outcome
some_outcome job = Failed 1

-- it fits each job
pub some_fits : (job : Job) → Fits job (some_outcome job)
some_fits job = (omega arith, omega arith)
