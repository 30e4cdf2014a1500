-- The faults of the crates below, as faults of a command line.
use Rattle.std.specs.Prelude.{◌≡◌, ◌⊎◌, ℕ, List, []}
use Rattle.object_name.specs.declared.trouble.Trouble.{Trouble}
use Rattle.object_name.specs.declared.trouble.Trouble.TheVariants as troubles
use Rattle.file_tree.specs.declared.model_fault.PlanFault.{PlanFault}
use Rattle.file_tree.specs.declared.model_fault.PlanFault.TheVariants as plans
use Rattle.need_eval.specs.declared.fault.EvalFault.{EvalFault}
use Rattle.need_eval.specs.declared.fault.EvalFault.TheVariants as faults
use Rattle.file_tree.specs.declared.model_fault.ApplyFault.{ApplyFault}
use Rattle.file_tree.specs.declared.model_fault.ApplyFault.TheVariants as applies
use Rattle.file_tree.specs.declared.model_fault.Reason.{Reason}
use Rattle.file_tree.specs.declared.refusal.WantFault.{WantFault}
use Rattle.file_tree.specs.declared.refusal.WantFault.TheVariants as wants
use Rattle.need_eval.specs.declared.fault.Refusal.TheVariants as refusals
use Rattle.build_script.specs.Commands.{word_at}
use Rattle.build_script.specs.declared.line_fault.LineFault.{LineFault}
use Rattle.build_script.specs.declared.line_fault.LineFault.TheVariants as line_faults
use Rattle.gg_cli.specs.declared.fault.TopFault.{TopFault}
use Rattle.gg_cli.specs.declared.fault.TopFault.TheVariants.{FileRefused, Refused, NotModelled, LineNotModelled, ToolFailed, Clash, StoreFailed, FileFailed, OutputFailed, Memory}
use Rattle.gg_cli.specs.declared.fault.FilingFault.{FilingFault}
use Rattle.gg_cli.specs.declared.fault.FilingFault.TheVariants as filings

-- the fault that reading the wanted items ends with
abbrev pub want_fault : WantFault → TopFault
want_fault (wants.Refused refusal) = FileRefused refusal
want_fault wants.Failed = FileFailed
want_fault wants.Memory = Memory

-- the fault that an evaluation ends with; the runner here never fails
abbrev pub IsFaultOf : EvalFault → TopFault → Type 0
IsFaultOf (faults.Refused refusal) fault = fault ≡ Refused refusal
IsFaultOf (faults.Clash name found fresh) fault = fault ≡ Clash name
IsFaultOf faults.StoreFailed fault = fault ≡ StoreFailed
IsFaultOf faults.RunFailed fault = ⊥
IsFaultOf faults.Memory fault = fault ≡ Memory

-- the fault that writing values to files ends with
abbrev pub filing_fault : FilingFault → TopFault
filing_fault (filings.Missing name) = Refused (refusals.Missing name)
filing_fault filings.StoreFailed = StoreFailed
filing_fault filings.FileFailed = FileFailed
filing_fault filings.Memory = Memory

-- the fault of an output that is in trouble
abbrev pub output_fault : Trouble → TopFault
output_fault troubles.Failed = OutputFailed
output_fault troubles.Memory = Memory

-- a word is refused, or memory ran out for a copy of it
abbrev pub IsRefusedWord : List ℕ → Reason → TopFault → Type 0
IsRefusedWord word reason fault = (fault ≡ NotModelled word reason) ⊎ (fault ≡ Memory)

-- the fault that work of a command whose own word is this ends with
abbrev pub IsWorkFault : List ℕ → ApplyFault → TopFault → Type 0
IsWorkFault word (applies.Refused refusal) fault = fault ≡ FileRefused refusal
IsWorkFault word (applies.Reason reason) fault = IsRefusedWord word reason fault
IsWorkFault word (applies.Clash name found fresh) fault = fault ≡ Clash name
IsWorkFault word applies.StoreFailed fault = fault ≡ StoreFailed
IsWorkFault word applies.FileFailed fault = fault ≡ FileFailed
IsWorkFault word applies.Memory fault = fault ≡ Memory

-- the fault of words that have no plan
abbrev pub IsPlanFault : List (List ℕ) → PlanFault → TopFault → Type 0
IsPlanFault words (plans.Refused at reason) fault = IsRefusedWord (word_at words at) reason fault
IsPlanFault words plans.Memory fault = fault ≡ Memory

-- the fault of the work of a line
abbrev pub apply_fault : ℕ → ApplyFault → TopFault
apply_fault line (applies.Refused refusal) = FileRefused refusal
apply_fault line (applies.Reason reason) = LineNotModelled line [] reason
apply_fault line (applies.Clash name found fresh) = Clash name
apply_fault line applies.StoreFailed = StoreFailed
apply_fault line applies.FileFailed = FileFailed
apply_fault line applies.Memory = Memory

-- the fault that a script ends with
abbrev pub line_fault : LineFault → TopFault
line_fault (line_faults.Word line word reason) = LineNotModelled line word reason
line_fault (line_faults.Apply line fault) = apply_fault line fault
line_fault (line_faults.Tool line status) = ToolFailed line status
line_fault line_faults.Memory = Memory

-- the fault of a build in a store and a tree in memory, of which no call is to fail: of these memory alone runs out
abbrev pub own_fault : TopFault → TopFault
own_fault StoreFailed = Memory
own_fault FileFailed = Memory
own_fault fault = fault
