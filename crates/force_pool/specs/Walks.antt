-- What the caller's walk has done.
use Rattle.std.specs.Prelude.{◌≡◌, ◌≤◌, ℕ, List, Result, Ok, Err}
use Rattle.thunk_codec.specs.declared.reference.Ref.{Ref}
use Rattle.thunk_codec.specs.declared.job.Job.{Job}
use Rattle.thunk_codec.specs.declared.job.Outcome.{Outcome}
use Rattle.blob_store.specs.Store.{Store, Write}
use Rattle.blob_store.specs.Keeping.{kept}
use Rattle.need_eval.specs.declared.evaluating.Values.{Values}
use Rattle.need_eval.specs.declared.fault.EvalFault.{EvalFault}
use Rattle.need_eval.specs.declared.fault.EvalFault.TheVariants as faults
use Rattle.need_eval.specs.Progress.{Evaluates}
use Rattle.need_eval.specs.StepContracts.{HasKeeperCause}
use Rattle.force_pool.specs.declared.halt.Halt.{Halt}
use Rattle.force_pool.specs.declared.halt.Halt.TheVariants.{Eval, Stopped, Memory}
use Rattle.force_pool.specs.declared.halt.Pause.{Pause}
use Rattle.force_pool.specs.declared.halt.Pause.TheVariants as pauses

abbrev pub by_pause : Pause → Halt
by_pause pauses.Stopped = Stopped
by_pause pauses.Memory = Memory

-- how a halt stops the evaluation: as its own fault, or part way, as want of memory does
abbrev pub halts_as : Halt → EvalFault
halts_as (Eval fault) = fault
halts_as Stopped = faults.Memory
halts_as Memory = faults.Memory

-- the end of the walk, as that of an evaluation
abbrev pub as_walked : Result Values Halt → Result Values EvalFault
as_walked (Ok values) = Ok values
as_walked (Err halt) = Err (halts_as halt)

-- a keeper was used for an evaluation with this function, which gave this
pub record IsEvaluation {K : Type 0} (Told : Type 0) (store : K → Store) (writes : K → List Write) (faults : K → ℕ) (tells : Job → Type 0) (outcome : Job → Outcome) (budget retries : ℕ) (refs : List Ref) (old now : K) (result : Result Values EvalFault) : Type 0 where
  pub does : Told → Evaluates tells outcome budget refs (kept store writes old) (kept store writes now) result
  pub cause : HasKeeperCause retries (faults old) (faults now) result

-- a keeper was only read: where it tells what it has, it has it as before
pub record IsOnlyRead {K : Type 0} (Told : Type 0) (store : K → Store) (writes : K → List Write) (faults : K → ℕ) (old now : K) : Type 0 where
  pub same : Told → store now ≡ store old
  pub list : Told → writes now ≡ writes old
  pub later : faults old ≤ faults now
