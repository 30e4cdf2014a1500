-- What the call answers, by the end of the caller's walk and those of the workers.
use Rattle.std.specs.Prelude.{◌≡◌, ◌≢◌, ℕ, List, Bool, true, false, Some, Result, Ok, Err, if◌then◌else◌}
use Rattle.std.specs.List.{AllZip, AllByRecursion}
use Rattle.thunk_codec.specs.declared.job.Job.{Job}
use Rattle.need_eval.specs.declared.evaluating.Values.{Values}
use Rattle.force_core.specs.declared.event.Event.{Event}
use Rattle.force_core.specs.History.{State, start, replay}
use Rattle.force_pool.specs.declared.worker_end.WorkerEnd.{WorkerEnd}
use Rattle.force_pool.specs.declared.worker_end.WorkerEnd.TheVariants as ends
use Rattle.force_pool.specs.declared.halt.Halt.{Halt}
use Rattle.force_pool.specs.declared.halt.Halt.TheVariants as halts
use Rattle.force_pool.specs.declared.fault.ForceFault.{ForceFault}
use Rattle.force_pool.specs.declared.fault.ForceFault.TheVariants.{Eval, Differs, LinksLost, Memory}
use Rattle.force_pool.specs.declared.report.Report.{Report}
use Rattle.force_pool.specs.Links.{Mark, IsBack, IsLost, DiffersBy, HasNumbers, CountsOn}
use Rattle.force_pool.specs.Report.{IsReport, LeavesOpenJob, HasOpenJob}

-- why the workers stopped before the walk was at its end
abbrev pub stopping : Bool → Bool → WorkerEnd → ForceFault
stopping all_lost has_open (ends.Differs resolved first second) = Differs resolved first second
stopping all_lost has_open ends.Going = if all_lost then (if has_open then LinksLost else Memory) else Memory
stopping all_lost has_open ends.GaveUp = if all_lost then (if has_open then LinksLost else Memory) else Memory
stopping all_lost has_open ends.Memory = if all_lost then (if has_open then LinksLost else Memory) else Memory

-- the answer, where no worker was refused memory
abbrev pub concluding : Bool → Bool → WorkerEnd → Result Values Halt → Result Values ForceFault
concluding all_lost has_open why (Ok values) = Ok values
concluding all_lost has_open why (Err (halts.Eval fault)) = Err (Eval fault)
concluding all_lost has_open why (Err halts.Memory) = Err Memory
concluding all_lost has_open why (Err halts.Stopped) = Err (stopping all_lost has_open why)

-- the answer: want of memory where a worker was refused memory, since its numbers don't count then
abbrev pub conclusion : Bool → Bool → Bool → WorkerEnd → Result Values Halt → Result Values ForceFault
conclusion true all_lost has_open why walked = Err Memory
conclusion false all_lost has_open why walked = concluding all_lost has_open why walked

-- a history that was handed out is legal, and some job has no outcome where that is said
pub record IsClosing (workers retries copies : ℕ) (history : List Event) (has_open : Bool) : Type 0 where
  pub state : State
  pub legal : replay workers (start workers retries copies) history ≡ Some state
  pub some : has_open ≡ true → HasOpenJob state

-- what the call ensures of its links, its report and its answer
pub record IsPoolEnd (tells : Job → Type 0) (workers retries copies : ℕ) (given back : List Mark) (r : Report) (end' : Result Values ForceFault) : Type 0 where
  pub report : IsReport workers retries copies r
  pub links : AllZip IsBack given back
  pub lost : end' ≡ Err LinksLost → AllZip (IsLost retries) given back
  pub open_job : end' ≡ Err LinksLost → LeavesOpenJob workers retries copies r
  pub differs : DiffersBy tells back end'
  pub numbers : end' ≢ Err Memory → AllByRecursion CountsOn back → HasNumbers given back r
