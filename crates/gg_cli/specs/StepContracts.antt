-- What the steps of a command line promise: it ends done or at a fault, and then the line of the fault is said.
use Rattle.std.specs.Prelude.{◌≡◌, ◌⊎◌, ℕ, List, [], true, Option, Some, Result, Ok, Err}
use Rattle.object_name.specs.Name.{ObjectName}
use Rattle.object_name.specs.Causes.{Rose, RoseBy}
use Rattle.object_name.specs.Streams.{AppendsPrefix}
use Rattle.blob_store.specs.Store.{Contents, Store, Write, held}
use Rattle.blob_store.specs.Keeping.{Kept, all_written}
use Rattle.file_tree.specs.Files.{Filed, Files, ChangesPrefix, all_changed}
use Rattle.file_tree.specs.declared.change.Change.{Change}
use Rattle.file_tree.specs.declared.item.Item.{Item}
use Rattle.thunk_codec.specs.Reading.{thunk_of}
use Rattle.thunk_codec.specs.Thunk.{Parts}
use Rattle.build_plan.specs.Applying.{Sides}
use Rattle.need_eval.specs.Eval.{State, Ended, Got}
use Rattle.need_eval.specs.MetObjects.{AreHeld}
use Rattle.gg_cli.specs.declared.fault.TopFault.{TopFault}
use Rattle.gg_cli.specs.declared.fault.TopFault.TheVariants as tops
use Rattle.gg_cli.specs.declared.fault.FilingFault.{FilingFault}
use Rattle.gg_cli.specs.declared.fault.FilingFault.TheVariants as filings
use Rattle.gg_cli.specs.declared.status.Status.{Status}
use Rattle.gg_cli.specs.declared.status.Status.TheVariants.{Done, Memory}
use Rattle.gg_cli.specs.declared.command.Command.{Command}
use Rattle.gg_cli.specs.Words.{read_by}
use Rattle.gg_cli.specs.Endings.{ending_of, line_of}
use Rattle.gg_cli.specs.LowerFaults.{filing_fault}
use Rattle.gg_cli.specs.ValueFiles.{filed}
use Rattle.gg_cli.specs.ValueLines.{value_lines}
use Rattle.gg_cli.specs.declared.demo_command.Demonstration.{Demonstration}
use Rattle.gg_cli.specs.declared.demo_command.Program.{Program}
use Rattle.build_plan.specs.Symbolic.{Work}
use Rattle.build_script.specs.Inferring.{at_most}
use Rattle.build_script.specs.Script.{ScriptEnd, Finished}
use Rattle.gg_cli.specs.Answer.{Answer, bytes_described, demo_text, done, ended_by, forced, program_built, thunk_described}
use Rattle.gg_cli.specs.Comes.{Made, Counts, Comes, NothingDone, SaysWhole, TopCause, status_line}

-- the status of the fault comes, and its line is that of the status
pub record EndsAt (a : Answer) (m : Made) (fault : TopFault) : Type 0 where
  pub comes : Comes a m (ending_of fault).status
  pub line : status_line a (ending_of fault).status ≡ line_of fault

-- done, or at a fault
abbrev pub Ends : {T : Type 0} → Answer → Made → Result T TopFault → Type 0
Ends a m (Ok v) = Comes a m Done
Ends a m (Err fault) = EndsAt a m fault

-- the keeper, the tree or the output failed only where its count rose
abbrev pub EndCause : {T : Type 0} → ℕ → Counts → Result T TopFault → Type 0
EndCause retries counts (Ok v) = Unit {0}
EndCause retries counts (Err fault) = TopCause retries counts (ending_of fault).status

-- how many failures of the keeper a fault is
abbrev pub kept_faults_of : TopFault → ℕ
kept_faults_of tops.StoreFailed = 1
kept_faults_of fault = 0

-- how many failures of the tree it is
abbrev pub file_faults_of : TopFault → ℕ
file_faults_of tops.FileFailed = 1
file_faults_of fault = 0

-- those of a step, by its answer
abbrev pub answered : {T F : Type 0} → (F → ℕ) → Result T F → ℕ
answered count (Ok v) = 0
answered count (Err fault) = count fault

-- no count but the keeper's may have risen
abbrev pub kept_counts : ℕ → ℕ → Counts
kept_counts before after = record { kept_before = before; kept_after = after; files_before = 0; files_after = 0; out_before = 0; out_after = 0 }

-- nothing but the store may have changed
abbrev pub only_store : Kept → Kept → Filed → Option (List ℕ) → Made
only_store before after files told = record { kept_before = before; kept_after = after; files_before = files; files_after = files; out_before = told; out_after = told }

-- the evaluation gave these values, which are held, and all of its writes are made, each once
pub record HasValues (e : Ended (List ObjectName)) (names : List ObjectName) (before after : Kept) : Type 0 where
  pub last : State
  pub got : e ≡ Got names last
  pub store : after.store ≡ last.store
  pub writes : after ≡ all_written before last.writes
  pub held : AreHeld after.store names

-- the values of the evaluation, or a fault before any file is written
abbrev pub Values : Ended (List ObjectName) → Kept → Kept → Result (List ObjectName) TopFault → Type 0
Values e before after (Ok names) = HasValues e names before after
Values e before after (Err fault) = (items : List Item) (files : Filed) (told : Option (List ℕ)) → EndsAt (forced items e) (only_store before after files told) fault

-- the values, which are held, went to their files, up to a fault
abbrev pub FilesValues : {T : Type 0} → List Change → Filed → Filed → Result T FilingFault → Type 0
FilesValues changes before after (Ok v) = after ≡ all_changed before changes
FilesValues changes before after (Err (filings.Missing name)) = ⊥
FilesValues changes before after (Err filings.StoreFailed) = ChangesPrefix changes before after
FilesValues changes before after (Err filings.FileFailed) = ChangesPrefix changes before after
FilesValues changes before after (Err filings.Memory) = ChangesPrefix changes before after

-- how many failures of the keeper a fault of filing is
abbrev pub kept_faults_filing : FilingFault → ℕ
kept_faults_filing fault = kept_faults_of (filing_fault fault)

-- how many failures of the tree it is
abbrev pub file_faults_filing : FilingFault → ℕ
file_faults_filing fault = file_faults_of (filing_fault fault)

-- the keeper or the tree failed only where its count rose by more than the retries
abbrev pub FilingCause : {T : Type 0} → ℕ → ℕ → ℕ → ℕ → ℕ → Result T FilingFault → Type 0
FilingCause retries kept_before kept_after files_before files_after (Ok v) = Unit {0}
FilingCause retries kept_before kept_after files_before files_after (Err (filings.Missing name)) = Unit {0}
FilingCause retries kept_before kept_after files_before files_after (Err filings.StoreFailed) = RoseBy retries kept_before kept_after
FilingCause retries kept_before kept_after files_before files_after (Err filings.FileFailed) = RoseBy retries files_before files_after
FilingCause retries kept_before kept_after files_before files_after (Err filings.Memory) = Unit {0}

-- after writes that gave these values, they go to their files and this text is printed
abbrev pub HandsOutWith : {T : Type 0} → List ℕ → List ObjectName → List Item → Kept → Kept → Filed → Filed → Option (List ℕ) → Option (List ℕ) → Result T TopFault → Type 0
HandsOutWith text names items now after files_before files_after out_before out_after result =
    (before : Kept) (writes : List Write) → now ≡ all_written before writes →
    Ends (done writes (filed now.store.objects names items) text)
    (record { kept_before = before; kept_after = after; files_before = files_before; files_after = files_after; out_before = out_before; out_after = out_after }) result

-- the same where the values are printed
abbrev pub HandsOut : {T : Type 0} → List ObjectName → List Item → Kept → Kept → Filed → Filed → Option (List ℕ) → Option (List ℕ) → Result T TopFault → Type 0
HandsOut names items now after files_before files_after out_before out_after result =
    HandsOutWith (value_lines names items) names items now after files_before files_after out_before out_after result

-- the status and the line of the fault, or out of memory and a prefix of the line
abbrev pub Speaks : TopFault → Status → Option (List ℕ) → Option (List ℕ) → ℕ → ℕ → Type 0
Speaks fault status before after faults_before faults_after =
    ((status ≡ (ending_of fault).status) × SaysWhole (line_of fault) before after faults_before faults_after)
    ⊎ ((status ≡ Memory) × AppendsPrefix before after (line_of fault))

-- ---- work

-- what the keeper and the tree tell around work, which prints nothing
abbrev pub work_made : Option (List ℕ) → Sides → Made
work_made told s = record {
  kept_before = s.kept_before;
  kept_after = s.kept_after;
  files_before = s.files_before;
  files_after = s.files_after;
  out_before = told;
  out_after = told;
}

-- no count but the keeper's and the tree's may have risen
abbrev pub work_counts : ℕ → ℕ → ℕ → ℕ → Counts
work_counts kept_before kept_after files_before files_after =
    record { kept_before = kept_before; kept_after = kept_after; files_before = files_before; files_after = files_after; out_before = 0; out_after = 0 }

-- nothing of the store changes, whatever it is
abbrev pub unkept : Kept → Filed → Filed → Option (List ℕ) → Option (List ℕ) → Made
unkept kept files_before files_after out_before out_after =
    record { kept_before = kept; kept_after = kept; files_before = files_before; files_after = files_after; out_before = out_before; out_after = out_after }

-- no count of the keeper has risen, whatever it is
abbrev pub file_counts : ℕ → ℕ → ℕ → ℕ → ℕ → Counts
file_counts kept files_before files_after out_before out_after =
    record { kept_before = kept; kept_after = kept; files_before = files_before; files_after = files_after; out_before = out_before; out_after = out_after }

-- ---- the whole command line, whose input may fail too

-- the input that is read failed, its count rose, and nothing is done
pub record FailsBefore (command : Option Command) (m : Made) (input_before input_after : ℕ) : Type 0 where
  pub is_read : read_by command ≡ true
  pub rose : Rose input_before input_after
  pub nothing : NothingDone m

-- where the input failed
abbrev pub InputEnd : {T : Type 0} → Option Command → Made → ℕ → ℕ → Result T TopFault → Type 0
InputEnd command m before after (Ok v) = Unit {0}
InputEnd command m before after (Err tops.InputFailed) = FailsBefore command m before after
InputEnd command m before after (Err fault) = Unit {0}

-- where it didn't: done, or at a fault
abbrev pub TopEnds : {T : Type 0} → Answer → Made → Result T TopFault → Type 0
TopEnds a m (Ok v) = Comes a m Done
TopEnds a m (Err tops.InputFailed) = Unit {0}
TopEnds a m (Err fault) = EndsAt a m fault

-- and what caused that
abbrev pub TopEndCause : {T : Type 0} → ℕ → Counts → Result T TopFault → Type 0
TopEndCause retries counts (Ok v) = Unit {0}
TopEndCause retries counts (Err tops.InputFailed) = Unit {0}
TopEndCause retries counts (Err fault) = TopCause retries counts (ending_of fault).status

-- ---- reading

-- a fault that ends an answer before anything is done: a refusal is the answer's
abbrev pub StopsAt : Answer → TopFault → Type 0
StopsAt a tops.StoreFailed = Unit {0}
StopsAt a tops.FileFailed = Unit {0}
StopsAt a tops.InputFailed = ⊥
StopsAt a tops.OutputFailed = ⊥
StopsAt a tops.Memory = Unit {0}
StopsAt a fault = a ≡ ended_by [] [] fault

-- the bytes that are held under a name, or a fault that ends their description
abbrev pub ReadsBytes : Contents → ObjectName → Result (List ℕ) TopFault → Type 0
ReadsBytes objects name (Ok bytes) = held objects name ≡ Some bytes
ReadsBytes objects name (Err fault) = StopsAt (bytes_described name (held objects name)) fault

-- the thunk whose text some bytes are, or a fault that ends its description
abbrev pub GivesThunk : ObjectName → List ℕ → Result Parts TopFault → Type 0
GivesThunk name bytes (Ok thunk) = thunk_of bytes ≡ Some thunk
GivesThunk name bytes (Err fault) = StopsAt (thunk_described name (thunk_of bytes)) fault

-- the thunk of a name, which is described, or a fault that ends its description
abbrev pub ReadsThunk : Contents → ObjectName → Result Parts TopFault → Type 0
ReadsThunk objects name (Ok thunk) = bytes_described name (held objects name) ≡ thunk_described name (Some thunk)
ReadsThunk objects name (Err fault) = StopsAt (bytes_described name (held objects name)) fault

-- ---- the demonstration

-- the script is done, so many thunks are made, and its work is what the store and the tree have
pub record LeavesWork (e : ScriptEnd Work) (store : Store) (files : Files) (thunks : ℕ) : Type 0 where
  pub commands : ℕ
  pub last : Work
  pub finished : e ≡ Finished commands last
  pub thunks_made : thunks ≡ at_most last.thunks
  pub same_store : store ≡ last.store
  pub same_files : files ≡ last.files

-- the thunks of the script, or a fault that ends the demonstration
abbrev pub MakesThunks : ScriptEnd Work → Store → Files → Result ℕ TopFault → Type 0
MakesThunks e store files (Ok thunks) = LeavesWork e store files thunks
MakesThunks e store files (Err fault) = StopsAt (program_built e) fault

-- the program's value, which is printed after so many thunks, or a fault that ends the demonstration
abbrev pub ShowsProgram : ℕ → Answer → Result Program TopFault → Type 0
ShowsProgram thunks a (Ok shown) = a ≡ done [] [] (demo_text (at_most thunks) shown.steps shown.name)
ShowsProgram thunks a (Err fault) = StopsAt a fault

-- what is printed, or a fault that ends the demonstration
abbrev pub ShowsDemonstration : Answer → Result Demonstration TopFault → Type 0
ShowsDemonstration a (Ok shown) = a ≡ done [] [] (demo_text shown.thunks shown.program.steps shown.program.name)
ShowsDemonstration a (Err fault) = StopsAt a fault
