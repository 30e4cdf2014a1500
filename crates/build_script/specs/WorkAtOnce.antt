-- What the calls that do a command's work at once have done, by their answers.
use Rattle.std.specs.Prelude.{◌≡◌, ◌≤◌, ◌++◌, ◌∷◌, [], ℕ, List, Option, Some, None, Result, Ok, Err}
use Rattle.object_name.specs.Causes.{RoseBy, TriesAtMost}
use Rattle.object_name.specs.declared.trouble.Trouble.{Trouble}
use Rattle.object_name.specs.declared.trouble.Trouble.TheVariants as troubles
use Rattle.thunk_codec.specs.Card.{card_text}
use Rattle.thunk_codec.specs.declared.job.Job.{Job}
use Rattle.file_tree.specs.Files.{Files, Filed, ChangesPrefix, all_changed, changed, file_read}
use Rattle.file_tree.specs.declared.change.Change.{Change}
use Rattle.file_tree.specs.declared.model_fault.ApplyFault.{ApplyFault}
use Rattle.file_tree.specs.declared.model_fault.ApplyFault.TheVariants as faults
use Rattle.file_tree.specs.declared.model_fault.Reason.TheVariants as reasons
use Rattle.file_tree.specs.declared.tree.FileRead.{FileRead}
use Rattle.file_tree.specs.declared.tree.FileRead.TheVariants as reads
use Rattle.include_scan.specs.declared.fault.ScanFault.{ScanFault}
use Rattle.include_scan.specs.declared.fault.ScanFault.TheVariants as scans
use Rattle.sandbox_run.specs.Cards.{card_outcome}
use Rattle.build_plan.specs.declared.plan.Plan.{Plan}
use Rattle.build_plan.specs.Doing.{Why, File, Unmodelled, Got, Stopped, Doing, ◌>>=◌, ◌>>◌, give, unless, each, state_after}
use Rattle.build_plan.specs.Doing.Why.{Tool as ToolFails}
use Rattle.build_plan.specs.Symbolic.{one_output}
use Rattle.build_plan.specs.Way.{Way, done, found_or, first_found}
use Rattle.build_script.specs.declared.line_fault.LineFault.{LineFault}
use Rattle.build_script.specs.declared.line_fault.LineFault.TheVariants as line_faults
use Rattle.build_script.specs.declared.line_command.LineCommand.{LineCommand}
use Rattle.build_script.specs.declared.run_fault.RunFault.{RunFault}
use Rattle.build_script.specs.declared.run_fault.RunFault.TheVariants.{Refused, TooMany, Tool, Failed, Memory}
use Rattle.build_script.specs.AtOnce.{Ran, at_once, not_run, bytes_of, job_run, output_by}
use Rattle.build_script.specs.LineCommand.{Halt, AtWord, AtWork}
use Rattle.build_script.specs.FoundCommands.{FindsCommand}
use Rattle.build_script.specs.LineFaults.{TreeCause, line_file_failures}
use Rattle.build_script.specs.Script.{ScriptEnd, Finished, Halted, command_done, state_at}
use Rattle.build_script.specs.WholeTree.{cpp_whole}

-- the way at once, by the tools of cards
abbrev pub by_cards : Way Ran (List ℕ)
by_cards = at_once card_outcome cpp_whole

-- ---- faults

-- why a call of a tree failed, and why a source was not scanned
abbrev pub fault_of_tree : Trouble → RunFault
fault_of_tree troubles.Failed = Failed
fault_of_tree troubles.Memory = Memory

abbrev pub fault_of_scan : ScanFault → RunFault
fault_of_scan (scans.Refused refusal) = Refused refusal
fault_of_scan scans.TooMany = TooMany
fault_of_scan scans.Failed = Failed
fault_of_scan scans.Memory = Memory

-- why work stops, where a fault is of the work itself
abbrev pub why_of : RunFault → Option Why
why_of (Refused refusal) = Some (File refusal)
why_of TooMany = Some (Unmodelled reasons.TooMany)
why_of (Tool status) = Some (ToolFails status)
why_of Failed = None
why_of Memory = None

-- how many failures of a tree an answer is
abbrev pub failures_of : RunFault → ℕ
failures_of (Refused refusal) = 0
failures_of TooMany = 0
failures_of (Tool status) = 0
failures_of Failed = 1
failures_of Memory = 0

abbrev pub failures : {A : Type 0} → Result A RunFault → ℕ
failures (Ok x) = 0
failures (Err fault) = failures_of fault

-- the counts of a tree have risen as an answer says that is so many failures
pub record Fares {T : Type 0} (tells : Type 0) (calls counts : T → ℕ) (retries : ℕ) (old now : T) (failed : ℕ) : Type 0 where
  pub later : counts old ≤ counts now
  pub cause : 1 ≤ failed → RoseBy retries (counts old) (counts now)
  pub tries : tells → TriesAtMost retries calls counts old now failed

-- a tree was read: it is as it was
pub record Reads {T : Type 0} (tells : Type 0) (files : T → Files) (changes : T → List Change) (calls counts : T → ℕ) (retries : ℕ)
    (old now : T) (failed : ℕ) : Type 0 where
  pub same : tells → files now ≡ files old
  pub list : tells → changes now ≡ changes old
  pub fares : Fares tells calls counts retries old now failed

-- ---- what was found

-- nothing stops here, or what is wanted stops so
abbrev pub IsStopped : {A : Type 0} → Result A Why → Option Why → Type 0
IsStopped wanted None = Unit {0}
IsStopped wanted (Some why) = wanted ≡ Err why

-- this was found, or work stops for this
abbrev pub Finds : {A : Type 0} → Result A Why → Result A RunFault → Type 0
Finds wanted (Ok x) = wanted ≡ Ok x
Finds wanted (Err fault) = IsStopped wanted (why_of fault)

-- the bytes of a file for a tool, if it is there
abbrev pub some_bytes : Result (List ℕ) Why → Result (Option (List ℕ)) Why
some_bytes (Ok bytes) = Ok (Some bytes)
some_bytes (Err why) = Err why

abbrev pub bytes_if_there : List ℕ → FileRead → Result (Option (List ℕ)) Why
bytes_if_there path reads.Absent = Ok None
bytes_if_there path (reads.Bytes bytes) = some_bytes (bytes_of path (reads.Bytes bytes))
bytes_if_there path reads.TooLong = some_bytes (bytes_of path reads.TooLong)

-- those of the first of some paths that is there, or why work stops
abbrev pub bytes_at_path : Files → Result (List ℕ) Why → Result (List ℕ) Why
bytes_at_path files (Ok path) = bytes_of path (file_read (files path))
bytes_at_path files (Err why) = Err why

abbrev pub first_bytes : Files → List ℕ → List (List ℕ) → Result (List ℕ) Why
first_bytes files missing places = bytes_at_path files (found_or missing (first_found files places))

-- the one of some outputs
abbrev pub only_one : List (List ℕ) → Option (List ℕ)
only_one [] = None
only_one (bytes ∷ []) = Some bytes
only_one (bytes ∷ other ∷ others) = None

-- the job of a tool over some inputs
abbrev pub job_of : List ℕ → List (List ℕ) → List (List ℕ × List ℕ) → Job
job_of tool args inputs = record { function = card_text tool; args = args; envs = []; inputs = inputs; outputs = one_output }

-- ---- what was done

-- with jobs more
abbrev pub with_jobs : Ran → List Job → Ran
with_jobs w jobs = record w { jobs = w.jobs ++ jobs }

-- with jobs and changes more
abbrev pub with_done : Ran → List Job → List Change → Ran
with_done w jobs changes = record { files = changed w.files changes; changes = w.changes ++ changes; jobs = w.jobs ++ jobs }

-- some of the work is done in these files, by these jobs, and this is left
pub record Leads {A : Type 0} (work left : Doing Ran A) (files : Files) : Type 0 where
  pub jobs : List Job
  pub goes_on : (w : Ran) → w.files ≡ files → work w ≡ left (with_jobs w jobs)

-- nothing stops here, or the work stops so
abbrev pub Stops : {A : Type 0} → Doing Ran A → Files → Option Why → Type 0
Stops work files None = Unit {0}
Stops work files (Some why) = Leads work (λ w. Stopped why w) files

-- what a call did that gathers, by its answer
abbrev pub Goes : {A : Type 0} → Doing Ran A → Files → Result A RunFault → Type 0
Goes work files (Ok x) = Leads work (give x) files
Goes work files (Err fault) = Stops work files (why_of fault)

-- what is left behind some results
abbrev pub behind : {A B : Type 0} → (A → Doing Ran B) → List B → List A → Doing Ran (List B)
behind work before xs = each work xs >>= λ more. give (before ++ more)

-- a tool is run over some inputs
abbrev pub tool_end : List ℕ → List (List ℕ) → List (List ℕ × List ℕ) → List ℕ → Doing Ran (List ℕ)
tool_end tool args inputs target = job_run (job_of tool args inputs) >> unless (output_by target (card_outcome (job_of tool args inputs)))

-- all changes were made, or a prefix of them, and no work stops here
abbrev pub Changes : {A : Type 0} → List Change → Filed → Filed → Result A RunFault → Type 0
Changes changes before after (Ok x) = after ≡ all_changed before changes
Changes changes before after (Err fault) = (why_of fault ≡ None) × ChangesPrefix changes before after

-- a plan is done by these jobs and changes, which are all made
pub record DoesPlan (plan : Plan) (before after : Filed) : Type 0 where
  pub jobs : List Job
  pub changes : List Change
  pub goes : (w : Ran) → w.files ≡ before.files → done by_cards plan w ≡ Got tt (with_done w jobs changes)
  pub made : after ≡ all_changed before changes

-- it is cut off, where a prefix of its changes is made, or it stops so, where none is
abbrev pub EndsPlan : Plan → Filed → Filed → Option Why → Type 0
EndsPlan plan before after None = ChangesPrefix (state_after (done by_cards plan (not_run before.files))).changes before after
EndsPlan plan before after (Some why) = Leads (done by_cards plan) (λ w. Stopped why w) before.files × (after ≡ before)

-- what a call did that does a plan, by its answer
abbrev pub PlanGoes : Plan → Filed → Filed → Result (Unit {0}) RunFault → Type 0
PlanGoes plan before after (Ok x) = DoesPlan plan before after
PlanGoes plan before after (Err fault) = EndsPlan plan before after (why_of fault)

-- ---- lines

-- what a line says is done at once
abbrev pub command_built : ℕ → Result (Option LineCommand) Halt → Ran → ScriptEnd Ran
command_built number found w = command_done by_cards number found w

module _ (work : Ran → ScriptEnd Ran) (before after : Filed) where
  -- a line is done by these jobs and changes, which are all made
  pub record DoesLine (count : ℕ) : Type 0 where
    pub jobs : List Job
    pub changes : List Change
    pub goes : (w : Ran) → w.files ≡ before.files → work w ≡ Finished count (with_done w jobs changes)
    pub made : after ≡ all_changed before changes

  -- it halts so, before any change
  pub record HaltsLine (halt : Halt) : Type 0 where
    pub jobs : List Job
    pub goes : (w : Ran) → w.files ≡ before.files → work w ≡ Halted halt (with_jobs w jobs)
    pub same : after ≡ before

  -- it is cut off, where a prefix of its changes is made
  abbrev pub CutsLine : Type 0
  CutsLine = ChangesPrefix (state_at (work (not_run before.files))).changes before after

  -- a fault of the work of a line's command, in the line of this number
  abbrev pub FailsLine : ℕ → ℕ → ApplyFault → Type 0
  FailsLine line number (faults.Refused refusal) = HaltsLine (AtWork number (File refusal))
  FailsLine line number (faults.Reason reason) = ⊥
  FailsLine line number (faults.Clash name found fresh) = ⊥
  FailsLine line number faults.StoreFailed = ⊥
  FailsLine line number faults.FileFailed = (number ≡ line) × CutsLine
  FailsLine line number faults.Memory = ⊥

  -- what a call did that does the line of this number, by its answer
  abbrev pub LineGoes : ℕ → Result ℕ LineFault → Type 0
  LineGoes line (Ok count) = DoesLine count
  LineGoes line (Err (line_faults.Word number word reason)) = HaltsLine (AtWord number word reason)
  LineGoes line (Err (line_faults.Apply number fault)) = FailsLine line number fault
  LineGoes line (Err (line_faults.Tool number status)) = HaltsLine (AtWork number (ToolFails status))
  LineGoes line (Err line_faults.Memory) = CutsLine

-- a fault of the work of a line's command, in the line of a number with this own word, which memory may be wanting for
abbrev pub IsLineFault : ℕ → List ℕ → RunFault → LineFault → Type 0
IsLineFault number word (Refused refusal) result = result ≡ line_faults.Apply number (faults.Refused refusal)
IsLineFault number word TooMany result = FindsCommand (Err result) (Err (AtWord number word reasons.TooMany))
IsLineFault number word (Tool status) result = result ≡ line_faults.Tool number status
IsLineFault number word Failed result = result ≡ line_faults.Apply number faults.FileFailed
IsLineFault number word Memory result = result ≡ line_faults.Memory

-- the counts of a tree have risen as the answer of a line says
pub record FaresAs {T A : Type 0} (tells : Type 0) (calls counts : T → ℕ) (retries : ℕ)
    (old now : T) (result : Result A LineFault) : Type 0 where
  pub later : counts old ≤ counts now
  pub cause : TreeCause retries (counts old) (counts now) result
  pub tries : tells → TriesAtMost retries calls counts old now (line_file_failures result)
