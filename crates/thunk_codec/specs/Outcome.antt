-- What running a function on a job may give.
use Rattle.std.specs.Prelude.{◌≡◌, ◌≤◌, length, sum_by}
use Rattle.object_name.specs.Name.{max_size}
use Rattle.thunk_codec.specs.declared.job.Job.{Job}
use Rattle.thunk_codec.specs.declared.job.Outcome.{Outcome}
use Rattle.thunk_codec.specs.declared.job.Outcome.TheVariants.{Done, Failed}

-- as many outputs as the job names; or a status from 1 to 204
abbrev pub HasForm : Job → Outcome → Type 0
HasForm job (Done outputs) = length outputs ≡ length job.outputs
HasForm job (Failed status) = (1 ≤ status) × (status ≤ 204)

-- an outcome of that form, its outputs together within the size of an object
abbrev pub Fits : Job → Outcome → Type 0
Fits job (Done outputs) = HasForm job (Done outputs) × (sum_by length outputs ≤ max_size)
Fits job (Failed status) = HasForm job (Failed status)
