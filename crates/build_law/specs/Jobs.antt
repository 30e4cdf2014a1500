-- What the law on builds asks of the jobs that are run at once.
use Rattle.std.specs.Prelude.{◌≡◌, ◌≤◌, ◌⊎◌, ℕ, List, [], ◌∷◌, map}
use Rattle.object_name.specs.Name.{ObjectName, name_of}
use Rattle.thunk_codec.specs.declared.job.Job.{Job}
use Rattle.thunk_codec.specs.declared.job.Outcome.{Outcome}
use Rattle.thunk_codec.specs.declared.job.Outcome.TheVariants.{Done}
use Rattle.thunk_codec.specs.declared.reference.Ref.{Ref}
use Rattle.thunk_codec.specs.declared.reference.Ref.TheVariants.{Value}
use Rattle.thunk_codec.specs.Job.{job_size, max_job}
use Rattle.thunk_codec.specs.Thunk.{Parts, text_of}
use Rattle.blob_store.specs.Store.{Store}
use Rattle.need_eval.specs.MetObjects.{IsHeld, HaveOwnNames}

-- a job is one of some
abbrev pub IsRun : Job → List Job → Type 0
IsRun job [] = ⊥
IsRun job (first ∷ others) = (first ≡ job) ⊎ IsRun job others

-- an input with its value in place of its bytes
abbrev pub value_input : List ℕ × List ℕ → List ℕ × Ref
value_input input = (input.0, Value (name_of input.1))

-- the thunk of a job: all its REFs are values
abbrev pub resolved : Job → Parts
resolved job = record {
  function = Value (name_of job.function);
  args = job.args;
  envs = job.envs;
  inputs = map value_input job.inputs;
  outputs = job.outputs;
}

-- the name of its text
abbrev pub resolved_name : Job → ObjectName
resolved_name job = name_of (text_of (resolved job))

-- an object is met: it is held, or it is the one output of a job
abbrev pub IsMet : (Job → Outcome) → Store → List Job → List ℕ → Type 0
IsMet outcome store jobs bytes = IsHeld store bytes ⊎ ((job : Job) × IsRun job jobs × (outcome job ≡ Done (bytes ∷ [])))

-- no two objects that are met have one name, nor two resolved texts of jobs
pub record HaveNoClash (outcome : Job → Outcome) (store : Store) (jobs : List Job) : Type 0 where
  pub objects : HaveOwnNames (IsMet outcome store jobs)
  pub texts : (a b : Job) → IsRun a jobs → IsRun b jobs → resolved_name a ≡ resolved_name b → text_of (resolved a) ≡ text_of (resolved b)

-- none of some jobs is over the limit
abbrev pub AreWithin : List Job → Type 0
AreWithin jobs = (job : Job) → IsRun job jobs → job_size job ≤ max_job
