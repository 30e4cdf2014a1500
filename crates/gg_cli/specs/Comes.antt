-- When each status comes, and what it leaves, by the answer of the definition.
use Rattle.std.specs.Prelude.{◌≡◌, ◌⊎◌, ℕ, List, [], ◌++◌, true, Option}
use Rattle.std.specs.Io.KnownBytes.{Appends}
use Rattle.object_name.specs.Causes.{Rose, RoseBy}
use Rattle.object_name.specs.Streams.{AppendsPrefix}
use Rattle.blob_store.specs.Keeping.{Kept, WritesPrefix, all_written}
use Rattle.file_tree.specs.Files.{Filed, ChangesPrefix, all_changed}
use Rattle.gg_cli.specs.declared.status.Status.{Status}
use Rattle.gg_cli.specs.declared.status.Status.TheVariants.{Done, Usage, StoreFault, FileFault, ByteFault, Memory}
use Rattle.gg_cli.specs.declared.fault.TopFault.TheVariants as faults
use Rattle.gg_cli.specs.declared.command.Command.{Command}
use Rattle.gg_cli.specs.Words.{read_by}
use Rattle.gg_cli.specs.Endings.{line_of}
use Rattle.gg_cli.specs.Answer.{Answer}
use Rattle.gg_cli.specs.Parts.{Part, all_changes, all_writes, first_part}

-- what is known of the keeper, the tree and the output before a call and after it
pub record Around (A B C : Type 0) : Type 0 where
  pub kept_before : A
  pub kept_after : A
  pub files_before : B
  pub files_after : B
  pub out_before : C
  pub out_after : C

-- what they hold: the store and the list of its writes, the files and the list of their changes, and the bytes on the output where
-- they are told
abbrev pub Made : Type 0
Made = Around Kept Filed (Option (List ℕ))

-- their counts of faults
abbrev pub Counts : Type 0
Counts = Around ℕ ℕ ℕ

-- the same, by what is read of each of the three
abbrev pub around : {K T O A B C : Type 0} → (K → A) → (T → B) → (O → C) → K → K → T → T → O → O → Around A B C
around kept files out keeper keeper_after tree tree_after sink sink_after = record {
  kept_before = kept keeper;
  kept_after = kept keeper_after;
  files_before = files tree;
  files_after = files tree_after;
  out_before = out sink;
  out_after = out sink_after;
}

-- a prefix of the part's writes was made, and no file was changed
pub record MadeWrites (part : Part) (m : Made) : Type 0 where
  pub kept : WritesPrefix part.writes m.kept_before m.kept_after
  pub files : m.files_after ≡ m.files_before

-- all of the part's writes were made, and a prefix of its changes of files
pub record MadeChanges (part : Part) (m : Made) : Type 0 where
  pub kept : m.kept_after ≡ all_written m.kept_before part.writes
  pub files : ChangesPrefix part.changes m.files_before m.files_after

-- a prefix of what the part does was made
abbrev pub MadePart : Part → Made → Type 0
MadePart part m = MadeWrites part m ⊎ MadeChanges part m

-- what they hold from some parts on, all of which are made
abbrev pub from_parts : List Part → Made → Made
from_parts parts m = record m { kept_before = all_written m.kept_before (all_writes parts); files_before = all_changed m.files_before (all_changes parts) }

-- a prefix of all that the answer does was made: some of its parts whole, and a prefix of the next
pub record MadePrefix (a : Answer) (m : Made) : Type 0 where
  pub before : List Part
  pub behind : List Part
  pub are : a.parts ≡ before ++ behind
  pub part : MadePart (first_part behind) (from_parts before m)

-- all that the answer does was made, each write and each change once and in order
pub record MadeAll (a : Answer) (m : Made) : Type 0 where
  pub kept : m.kept_after ≡ all_written m.kept_before (all_writes a.parts)
  pub files : m.files_after ≡ all_changed m.files_before (all_changes a.parts)

-- nothing is done and printed
pub record NothingDone (m : Made) : Type 0 where
  pub kept : m.kept_after ≡ m.kept_before
  pub files : m.files_after ≡ m.files_before
  pub out : m.out_after ≡ m.out_before

-- the answer, whole
pub record IsWhole (a : Answer) (m : Made) (status : Status) : Type 0 where
  pub is_status : status ≡ a.status
  pub all : MadeAll a m
  pub text : Appends m.out_before m.out_after a.text

-- a fault of the keeper or the tree: a prefix of what is done, and no text
pub record IsCallFault (a : Answer) (m : Made) : Type 0 where
  pub prefix : MadePrefix a m
  pub no_text : Appends m.out_before m.out_after []

-- all that the answer does was made, and then a prefix of its text was printed
pub record PrintsPrefix (a : Answer) (m : Made) : Type 0 where
  pub all : MadeAll a m
  pub text : AppendsPrefix m.out_before m.out_after a.text

-- a fault of the output: it comes while the text of an answer that is done is printed
pub record IsOutFault (a : Answer) (m : Made) : Type 0 where
  pub done : a.status ≡ Done
  pub prints : PrintsPrefix a m

-- out of memory: before all is made and then without text, or while the text is printed
abbrev pub IsMemory : Answer → Made → Type 0
IsMemory a m = IsCallFault a m ⊎ PrintsPrefix a m

-- the status comes so: but for the three faults and out of memory, each is the answer's, and comes with all of it
abbrev pub Comes : Answer → Made → Status → Type 0
Comes a m StoreFault = IsCallFault a m
Comes a m FileFault = IsCallFault a m
Comes a m ByteFault = IsOutFault a m
Comes a m Memory = IsMemory a m
Comes a m status = IsWhole a m status

-- the line that a status prints, but for `Done`, which prints none
abbrev pub status_line : Answer → Status → List ℕ
status_line a StoreFault = line_of faults.StoreFailed
status_line a FileFault = line_of faults.FileFailed
status_line a ByteFault = line_of faults.OutputFailed
status_line a Memory = line_of faults.Memory
status_line a status = a.line

-- a line that a fault prints
abbrev pub IsFaultLine : Answer → List ℕ → Type 0
IsFaultLine a line = (line ≡ line_of faults.InputFailed) ⊎ ((status : Status) × (line ≡ status_line a status))

-- out of memory: a prefix of one line that a fault prints
pub record SaysPrefix (a : Answer) (before after : Option (List ℕ)) : Type 0 where
  pub line : List ℕ
  pub is_line : IsFaultLine a line
  pub prefix : AppendsPrefix before after line

-- the line, cut short only where the count of the fault sink rose
abbrev pub SaysWhole : List ℕ → Option (List ℕ) → Option (List ℕ) → ℕ → ℕ → Type 0
SaysWhole line before after faults_before faults_after =
    Appends before after line ⊎ (AppendsPrefix before after line × Rose faults_before faults_after)

-- the input that is read failed, and its count rose: nothing is done, and the line of that is said
pub record IsInputFault (command : Option Command) (m : Made) (status : Status) (input_before input_after : ℕ) (before after : Option (List ℕ)) (faults_before faults_after : ℕ) : Type 0 where
  pub is_read : read_by command ≡ true
  pub is_status : status ≡ ByteFault
  pub rose : Rose input_before input_after
  pub nothing : NothingDone m
  pub line : SaysWhole (line_of faults.InputFailed) before after faults_before faults_after

-- what was said on the fault sink, by the status
abbrev pub Says : Answer → Status → Option (List ℕ) → Option (List ℕ) → ℕ → ℕ → Type 0
Says a Done before after faults_before faults_after = Appends before after []
Says a Memory before after faults_before faults_after = SaysPrefix a before after
Says a status before after faults_before faults_after = SaysWhole (status_line a status) before after faults_before faults_after

-- where the status alone decides the line, it is said whatever is told
abbrev pub SaysUntold : Status → Option (List ℕ) → Option (List ℕ) → ℕ → ℕ → Type 0
SaysUntold Done before after faults_before faults_after = Appends before after []
SaysUntold Usage before after faults_before faults_after = SaysWhole (line_of faults.Usage) before after faults_before faults_after
SaysUntold StoreFault before after faults_before faults_after = SaysWhole (line_of faults.StoreFailed) before after faults_before faults_after
SaysUntold FileFault before after faults_before faults_after = SaysWhole (line_of faults.FileFailed) before after faults_before faults_after
SaysUntold ByteFault before after faults_before faults_after = SaysWhole (line_of faults.OutputFailed) before after faults_before faults_after
SaysUntold status before after faults_before faults_after = Unit {0}

-- faults come only where a count rose, whatever is told: the keeper's and the tree's by more than the retries
abbrev pub TopCause : ℕ → Counts → Status → Type 0
TopCause retries counts StoreFault = RoseBy retries counts.kept_before counts.kept_after
TopCause retries counts FileFault = RoseBy retries counts.files_before counts.files_after
TopCause retries counts ByteFault = Rose counts.out_before counts.out_after
TopCause retries counts status = Unit {0}

-- how many failures of the keeper a status may be: out of memory comes too where the line of a fault isn't written
abbrev pub kept_failures : Status → ℕ
kept_failures StoreFault = 1
kept_failures Memory = 1
kept_failures status = 0

-- how many failures of the tree it may be
abbrev pub file_failures : Status → ℕ
file_failures FileFault = 1
file_failures Memory = 1
file_failures status = 0
