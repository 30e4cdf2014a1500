-- What the steps of forcing over links promise.
use Rattle.std.specs.Prelude.{◌≡◌, ◌≢◌, ◌⊎◌, ℕ, List, Option, Some, None, Result, Ok, Err}
use Rattle.std.specs.List.{AllByRecursion, AllZip}
use Rattle.object_name.specs.Name.{ObjectName}
use Rattle.object_name.specs.Streams.{AppendsPrefix}
use Rattle.thunk_codec.specs.declared.job.Job.{Job}
use Rattle.thunk_codec.specs.declared.job.Outcome.{Outcome}
use Rattle.job_wire.specs.declared.answer.Answer as job_answers
use Rattle.blob_store.specs.Store.{Store}
use Rattle.blob_store.specs.Keeping.{Kept}
use Rattle.file_tree.specs.Files.{Filed}
use Rattle.need_eval.specs.declared.evaluating.Values.{Values}
use Rattle.need_eval.specs.declared.fault.EvalFault.{EvalFault}
use Rattle.need_eval.specs.declared.fault.EvalFault.TheVariants as evals
use Rattle.need_eval.specs.Evaluation.{by_list}
use Rattle.need_eval.specs.MetObjects.{AreHeld}
use Rattle.need_eval.specs.WritePrefix.{AreAnswers}
use Rattle.force_pool.specs.declared.fault.ForceFault.{ForceFault}
use Rattle.force_pool.specs.declared.fault.ForceFault.TheVariants as pools
use Rattle.force_pool.specs.declared.report.Report.{Report}
use Rattle.force_pool.specs.Links.{Mark, AreTold, CountsOn, HasNumbers, IsBack, IsLost}
use Rattle.force_pool.specs.Report.{IsReport, LeavesOpenJob}
use Rattle.gg_cli.specs.declared.fault.TopFault.TheVariants as tops
use Rattle.gg_cli.specs.declared.linked_fault.LinkedFault.{LinkedFault}
use Rattle.gg_cli.specs.declared.linked_fault.LinkedFault.TheVariants as linked
use Rattle.gg_cli.specs.declared.status.Status.{Status}
use Rattle.gg_cli.specs.declared.status.Status.TheVariants as statuses
use Rattle.gg_cli.specs.Answer.{Answer}
use Rattle.gg_cli.specs.Comes.{Made, Counts, Comes, IsCallFault, SaysWhole, TopCause}
use Rattle.gg_cli.specs.Endings.{ending_of, line_of}
use Rattle.gg_cli.specs.Linked.{Differing, differs_line, lost_line}
use Rattle.gg_cli.specs.LowerFaults.{IsFaultOf}
use Rattle.gg_cli.specs.StepContracts.{EndsAt}

-- ---- faults

-- the status of a fault
abbrev pub linked_status : LinkedFault → Status
linked_status (linked.Top fault) = (ending_of fault).status
linked_status (linked.Differs resolved first second) = statuses.Differs
linked_status linked.LinksLost = statuses.LinksLost

-- its line
abbrev pub linked_line : LinkedFault → List ℕ
linked_line (linked.Top fault) = line_of fault
linked_line (linked.Differs resolved first second) = differs_line resolved
linked_line linked.LinksLost = lost_line

-- the outcomes that differ, if it is that
abbrev pub differing : LinkedFault → Option Differing
differing (linked.Top fault) = None
differing (linked.Differs resolved first second) = Some (resolved, first, second)
differing linked.LinksLost = None

-- the status and the line of the fault, with the outcomes that differ; or out of memory and a prefix of the line
abbrev pub SpeaksOver : LinkedFault → Status → Option Differing → Option (List ℕ) → Option (List ℕ) → ℕ → ℕ → Type 0
SpeaksOver fault status differs before after faults_before faults_after =
    ((status ≡ linked_status fault) × (differs ≡ differing fault) × SaysWhole (linked_line fault) before after faults_before faults_after)
    ⊎ ((status ≡ statuses.Memory) × (differs ≡ None) × AppendsPrefix before after (linked_line fault))

-- ---- ends

-- the status of the fault comes; where outcomes differ or the links are lost, after a prefix of what is done
abbrev pub EndsOverAt : Answer → Made → LinkedFault → Type 0
EndsOverAt a m (linked.Top fault) = EndsAt a m fault
EndsOverAt a m (linked.Differs resolved first second) = IsCallFault a m
EndsOverAt a m linked.LinksLost = IsCallFault a m

-- done, or at a fault
abbrev pub EndsOver : {T : Type 0} → Answer → Made → Result T LinkedFault → Type 0
EndsOver a m (Ok v) = Comes a m statuses.Done
EndsOver a m (Err fault) = EndsOverAt a m fault

-- the keeper, the tree or the output failed only where its count rose
abbrev pub EndOverCause : {T : Type 0} → ℕ → Counts → Result T LinkedFault → Type 0
EndOverCause retries counts (Ok v) = Unit {0}
EndOverCause retries counts (Err fault) = TopCause retries counts (linked_status fault)

-- a fault of the evaluation
abbrev pub IsEvaluationFault : EvalFault → LinkedFault → Type 0
IsEvaluationFault fault (linked.Top top) = IsFaultOf fault top
IsEvaluationFault fault over = ⊥

-- the fault that forcing over links ends with
abbrev pub IsFaultOver : ForceFault → LinkedFault → Type 0
IsFaultOver (pools.Eval fault) over = IsEvaluationFault fault over
IsFaultOver (pools.Differs resolved first second) over = over ≡ linked.Differs resolved first second
IsFaultOver pools.LinksLost over = over ≡ linked.LinksLost
IsFaultOver pools.Memory over = over ≡ linked.Top tops.Memory

-- the names of the values that links gave, or the fault
abbrev pub NamesOver : Result Values ForceFault → Result (List ObjectName) LinkedFault → Type 0
NamesOver (Ok values) result = result ≡ Ok values.names
NamesOver (Err fault) (Ok names) = ⊥
NamesOver (Err fault) (Err over) = IsFaultOver fault over

-- the fault isn't that a run failed: those of workers are no fault of the evaluation
abbrev pub IsNoRunFault : ForceFault → Type 0
IsNoRunFault (pools.Eval evals.RunFailed) = ⊥
IsNoRunFault fault = Unit {0}

-- no run failed
abbrev pub NoRunFailed : Result Values ForceFault → Type 0
NoRunFailed (Ok values) = Unit {0}
NoRunFailed (Err fault) = IsNoRunFault fault

-- the values that links gave are held
abbrev pub HoldsValues : Store → Result Values ForceFault → Type 0
HoldsValues store (Ok values) = AreHeld store values.names
HoldsValues store (Err fault) = Unit {0}

-- the links are lost or outcomes differ in the end only where it was so for the values, and want of memory there is one here
pub record ConcludesAs {T : Type 0} (end' : Result Values ForceFault) (result : Result T LinkedFault) : Type 0 where
  pub lost : result ≡ Err linked.LinksLost → end' ≡ Err pools.LinksLost
  pub memory : end' ≡ Err pools.Memory → result ≡ Err (linked.Top tops.Memory)
  pub differs : (resolved : ObjectName) (first second : job_answers.Answer) → result ≡ Err (linked.Differs resolved first second) → end' ≡ Err (pools.Differs resolved first second)

-- ---- links

-- outcomes that are said to differ do so, and not all jobs that were sent are told
abbrev pub DiffersAt : {T : Type 0} → (Job → Type 0) → List Mark → Result T LinkedFault → Type 0
DiffersAt tells back (Err (linked.Differs resolved first second)) = (first ≢ second) × (AreTold tells back → ⊥)
DiffersAt tells back result = Unit {0}

-- what is so of the links and of the report, by how forcing over links ended
pub record KeepsLinks {T : Type 0} (tells : Job → Type 0) (workers retries copies : ℕ) (given back : List Mark) (r : Report) (result : Result T LinkedFault) : Type 0 where
  pub report : IsReport workers retries copies r
  pub links : AllZip IsBack given back
  pub numbers : result ≢ Err (linked.Top tops.Memory) → AllByRecursion CountsOn back → HasNumbers given back r
  pub lost : result ≡ Err linked.LinksLost → AllZip (IsLost retries) given back
  pub open_job : result ≡ Err linked.LinksLost → LeavesOpenJob workers retries copies r
  pub differs : DiffersAt tells back result

-- ---- whatever is told of jobs

-- there are outcomes that fit the jobs, and are the function's where that is told, for which it ends so
pub record EndsSome {T : Type 0} (tells : Job → Type 0) (outcome : Job → Outcome) (asked : (ℕ → Job → Option Outcome) → List Job) (answer : (ℕ → Job → Option Outcome) → Answer) (m : Made) (result : Result T LinkedFault) : Type 0 where
  pub given : List Outcome
  pub answers : AreAnswers tells outcome (asked (by_list given)) given
  pub ends : EndsOver (answer (by_list given)) m result

-- ---- handing out

-- what there was before forcing over links, and what there is after handing out
abbrev pub conclude_made : Kept → Kept → Filed → Filed → Option (List ℕ) → Option (List ℕ) → Made
conclude_made before after files_before files_after out_before out_after =
    record { kept_before = before; kept_after = after; files_before = files_before; files_after = files_after; out_before = out_before; out_after = out_after }

-- the counts of faults then
abbrev pub conclude_counts : ℕ → ℕ → ℕ → ℕ → ℕ → ℕ → Counts
conclude_counts before after files_before files_after out_before out_after =
    record { kept_before = before; kept_after = after; files_before = files_before; files_after = files_after; out_before = out_before; out_after = out_after }
