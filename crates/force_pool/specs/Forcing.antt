-- What forcing with links has done, as an evaluation.
use Rattle.std.specs.Prelude.{Result, Ok, Err}
use Rattle.need_eval.specs.declared.evaluating.Values.{Values}
use Rattle.need_eval.specs.declared.fault.EvalFault.{EvalFault}
use Rattle.need_eval.specs.declared.fault.EvalFault.TheVariants as faults
use Rattle.force_pool.specs.declared.fault.ForceFault.{ForceFault}
use Rattle.force_pool.specs.declared.fault.ForceFault.TheVariants.{Eval, Differs, LinksLost, Memory}

-- how a fault stops the evaluation: as its own, or part way, as want of memory does
abbrev pub stops_as : ForceFault → EvalFault
stops_as (Eval fault) = fault
stops_as (Differs resolved first second) = faults.Memory
stops_as LinksLost = faults.Memory
stops_as Memory = faults.Memory

-- the answer, as that of an evaluation
abbrev pub as_evaluated : Result Values ForceFault → Result Values EvalFault
as_evaluated (Ok values) = Ok values
as_evaluated (Err fault) = Err (stops_as fault)
