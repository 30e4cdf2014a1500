-- Faults of build scripts: what causes them, what they show, and how many failures they are.
use Rattle.std.specs.Prelude.{◌≡◌, ℕ, List, Result, Ok, Err}
use Rattle.object_name.specs.Causes.{RoseBy}
use Rattle.file_tree.specs.declared.model_fault.ApplyFault.{ApplyFault}
use Rattle.file_tree.specs.declared.model_fault.ApplyFault.TheVariants as faults
use Rattle.build_plan.specs.Applying.{ApplyCause, ClashShows, kept_failures, file_failures}
use Rattle.build_script.specs.declared.line_fault.LineFault.{LineFault}
use Rattle.build_script.specs.declared.line_fault.LineFault.TheVariants.{Word, Apply, Tool, Memory}
use Rattle.build_script.specs.Commands.{own_word}
use Rattle.build_script.specs.FoundCommands.{FindsCommand}
use Rattle.build_script.specs.LineCommand.{AtWord}

-- what an answer says of the work of a line: its fault, if that is what it is
abbrev pub work_answer : {A : Type 0} → Result A LineFault → Result ℕ ApplyFault
work_answer (Ok x) = Ok 0
work_answer (Err (Word line word reason)) = Ok 0
work_answer (Err (Apply line fault)) = Err fault
work_answer (Err (Tool line status)) = Ok 0
work_answer (Err Memory) = Err faults.Memory

-- a fault of a keeper or a tree comes only where its count rose by more than the retries
abbrev pub LineCause : {A : Type 0} → ℕ → ℕ → ℕ → ℕ → ℕ → Result A LineFault → Type 0
LineCause retries kept_before kept_after files_before files_after result =
    ApplyCause retries kept_before kept_after files_before files_after (work_answer result)

-- a clash shows two byte strings that differ and have one name
abbrev pub LineClashShows : {A : Type 0} → Result A LineFault → Type 0
LineClashShows result = ClashShows (work_answer result)

-- how many failures of the keeper an answer is, and of the tree
abbrev pub line_kept_failures : {A : Type 0} → Result A LineFault → ℕ
line_kept_failures result = kept_failures (work_answer result)

abbrev pub line_file_failures : {A : Type 0} → Result A LineFault → ℕ
line_file_failures result = file_failures (work_answer result)

-- where there is no keeper, a line's work fails only for a file, or for the tree, whose count rose then by more than the retries
abbrev pub WorkCause : ℕ → ℕ → ℕ → Result ℕ ApplyFault → Type 0
WorkCause retries before after (Ok x) = Unit {0}
WorkCause retries before after (Err (faults.Refused refusal)) = Unit {0}
WorkCause retries before after (Err (faults.Reason reason)) = ⊥
WorkCause retries before after (Err (faults.Clash name found fresh)) = ⊥
WorkCause retries before after (Err faults.StoreFailed) = ⊥
WorkCause retries before after (Err faults.FileFailed) = RoseBy retries before after
WorkCause retries before after (Err faults.Memory) = Unit {0}

abbrev pub TreeCause : {A : Type 0} → ℕ → ℕ → ℕ → Result A LineFault → Type 0
TreeCause retries before after result = WorkCause retries before after (work_answer result)

-- the fault of a line whose work has a fault: a reason is that of the command's own word, for which memory may be refused
abbrev pub WorkFaults : ℕ → List (List ℕ) → ApplyFault → LineFault → Type 0
WorkFaults line words (faults.Refused refusal) fault = fault ≡ Apply line (faults.Refused refusal)
WorkFaults line words (faults.Reason reason) fault = FindsCommand (Err fault) (Err (AtWord line (own_word words) reason))
WorkFaults line words (faults.Clash name found fresh) fault = fault ≡ Apply line (faults.Clash name found fresh)
WorkFaults line words faults.StoreFailed fault = fault ≡ Apply line faults.StoreFailed
WorkFaults line words faults.FileFailed fault = fault ≡ Apply line faults.FileFailed
WorkFaults line words faults.Memory fault = fault ≡ Memory
