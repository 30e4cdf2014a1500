-- Forcing over links: its answer, when each status comes, and what is said.
use Rattle.std.specs.Prelude.{◌≡◌, ◌≢◌, ◌⊎◌, ℕ, List, [], ◌++◌, Bool, true, false, Option, Some, None, Result, Ok, Err, codes}
use Rattle.object_name.specs.Name.{ObjectName, spelling}
use Rattle.object_name.specs.Streams.{AppendsPrefix}
use Rattle.thunk_codec.specs.declared.reference.Ref.{Ref}
use Rattle.thunk_codec.specs.declared.job.Job.{Job}
use Rattle.thunk_codec.specs.declared.job.Outcome.{Outcome}
use Rattle.job_wire.specs.declared.answer.Answer as job_answers
use Rattle.blob_store.specs.Store.{Store}
use Rattle.file_tree.specs.Files.{Files}
use Rattle.file_tree.specs.Wanted.{wanted_of}
use Rattle.file_tree.specs.declared.item.Item.{Item}
use Rattle.file_tree.specs.declared.refusal.FileRefusal.{FileRefusal}
use Rattle.need_eval.specs.Eval.{start}
use Rattle.need_eval.specs.Evaluation.{values_of, by_list}
use Rattle.need_eval.specs.WritePrefix.{AreAnswers, state_after}
use Rattle.force_pool.specs.Links.{Mark, AreTold}
use Rattle.force_pool.specs.declared.report.Report.{Report}
use Rattle.gg_cli.specs.declared.command.Command.{Command}
use Rattle.gg_cli.specs.declared.command.Command.TheVariants.{ForceWith}
use Rattle.gg_cli.specs.declared.fault.TopFault.TheVariants as faults
use Rattle.gg_cli.specs.declared.status.Status.{Status}
use Rattle.gg_cli.specs.declared.status.Status.TheVariants.{Differs, LinksLost, Memory}
use Rattle.gg_cli.specs.Words.{command_linked}
use Rattle.gg_cli.specs.Endings.{fault_line}
use Rattle.gg_cli.specs.ValueLines.{value_lines}
use Rattle.gg_cli.specs.Answer.{Answer, count_line, ended_by, wanted_forced_with}
use Rattle.gg_cli.specs.Comes.{Made, Comes, IsCallFault, Says, SaysUntold, SaysWhole, status_line}

-- two outcomes of a job that differ, with the name of the job's resolved text
abbrev pub Differing : Type 0
Differing = ObjectName × job_answers.Answer × job_answers.Answer

-- ---- the answer

-- the numbers of a report, each in a line
abbrev pub report_lines : Report → List ℕ
report_lines r = count_line (codes "starts ") r.starts ++ (count_line (codes "replies ") r.replies ++ count_line (codes "losses ") r.losses)

-- what is printed of a report
abbrev pub report_text : Bool → Report → List ℕ
report_text true r = report_lines r
report_text false r = []

-- what is printed: a line for each value, and the report where it is wanted
abbrev pub linked_text : Bool → Report → List ObjectName → List Item → List ℕ
linked_text wanted r names items = value_lines names items ++ report_text wanted r

-- the jobs that an evaluation asks for
abbrev pub asked_for : (ℕ → Job → Option Outcome) → ℕ → Store → Result (List Ref) FileRefusal → List Job
asked_for outcomes budget store (Err refusal) = []
asked_for outcomes budget store (Ok refs) = (state_after (values_of outcomes budget refs (start store))).asked

-- the answer of a command with these outcomes of jobs and this report; one that isn't done over links is a usage fault
abbrev pub command_answer : (ℕ → Job → Option Outcome) → Report → Option Command → Store → Files → Answer
command_answer outcomes r (Some (ForceWith links setup report items)) store files = wanted_forced_with outcomes (linked_text report r) setup.budget items store (wanted_of files items)
command_answer outcomes r command store files = ended_by [] [] faults.Usage

-- the jobs that it asks for
abbrev pub command_asks : (ℕ → Job → Option Outcome) → Option Command → Store → Files → List Job
command_asks outcomes (Some (ForceWith links setup report items)) store files = asked_for outcomes setup.budget store (wanted_of files items)
command_asks outcomes command store files = []

-- the answer of some words
unfoldable pub linked_answer : (ℕ → Job → Option Outcome) → Report → List (List ℕ) → Store → Files → Answer
linked_answer outcomes r words store files = command_answer outcomes r (command_linked words) store files

-- the jobs that some words ask for
unfoldable pub asked_by : (ℕ → Job → Option Outcome) → List (List ℕ) → Store → Files → List Job
asked_by outcomes words store files = command_asks outcomes (command_linked words) store files

-- ---- the status

-- the status comes so: where outcomes differ or the links are lost, a prefix of what is done, and no text
abbrev pub ComesOver : Answer → Made → Status → Type 0
ComesOver a m Differs = IsCallFault a m
ComesOver a m LinksLost = IsCallFault a m
ComesOver a m status = Comes a m status

-- two outcomes differ, and not all jobs that were sent on these links are told
abbrev pub ShowsDiffering : (Job → Type 0) → List Mark → Option Differing → Type 0
ShowsDiffering tells back None = ⊥
ShowsDiffering tells back (Some d) = (d.1 ≢ d.2) × (AreTold tells back → ⊥)

-- outcomes that differ are given exactly where the status is that
abbrev pub GivesDiffering : (Job → Type 0) → List Mark → Status → Option Differing → Type 0
GivesDiffering tells back Differs differs = ShowsDiffering tells back differs
GivesDiffering tells back status differs = differs ≡ None

-- ---- the line

-- the line of two outcomes that differ
abbrev pub differs_line : ObjectName → List ℕ
differs_line name = fault_line (codes "two outcomes of job " ++ spelling name)

-- the line of links that are lost
abbrev pub lost_line : List ℕ
lost_line = fault_line (codes "links lost")

-- a line that a fault prints: that of a status of the answer, or one of these
abbrev pub IsLinkedLine : Answer → List ℕ → Type 0
IsLinkedLine a line = ((status : Status) × (line ≡ status_line a status)) ⊎ (((name : ObjectName) × (line ≡ differs_line name)) ⊎ (line ≡ lost_line))

-- out of memory: a prefix of one line that a fault prints
pub record SaysLinkedPrefix (a : Answer) (before after : Option (List ℕ)) : Type 0 where
  pub line : List ℕ
  pub is_line : IsLinkedLine a line
  pub prefix : AppendsPrefix before after line

-- the line of the outcomes that differ is said
abbrev pub SaysDiffering : Option Differing → Option (List ℕ) → Option (List ℕ) → ℕ → ℕ → Type 0
SaysDiffering None before after faults_before faults_after = ⊥
SaysDiffering (Some d) before after faults_before faults_after = SaysWhole (differs_line d.0) before after faults_before faults_after

-- what was said on the fault sink, by the status
abbrev pub SaysOver : Answer → Option Differing → Status → Option (List ℕ) → Option (List ℕ) → ℕ → ℕ → Type 0
SaysOver a differs Differs before after faults_before faults_after = SaysDiffering differs before after faults_before faults_after
SaysOver a differs LinksLost before after faults_before faults_after = SaysWhole lost_line before after faults_before faults_after
SaysOver a differs Memory before after faults_before faults_after = SaysLinkedPrefix a before after
SaysOver a differs status before after faults_before faults_after = Says a status before after faults_before faults_after

-- where the status alone decides the line, or the outcomes that differ, it is said whatever is told
abbrev pub SaysOverUntold : Option Differing → Status → Option (List ℕ) → Option (List ℕ) → ℕ → ℕ → Type 0
SaysOverUntold differs Differs before after faults_before faults_after = SaysDiffering differs before after faults_before faults_after
SaysOverUntold differs LinksLost before after faults_before faults_after = SaysWhole lost_line before after faults_before faults_after
SaysOverUntold differs status before after faults_before faults_after = SaysUntold status before after faults_before faults_after

-- ---- whatever is told of jobs

-- there are outcomes that fit the jobs, and are the function's where that is told, for which the answer comes and is said
pub record ComesSome (tells : Job → Type 0) (outcome : Job → Outcome) (r : Report) (words : List (List ℕ)) (store : Store) (files : Files) (m : Made) (differs : Option Differing) (status : Status)
    (before after : Option (List ℕ)) (faults_before faults_after : ℕ) : Type 0 where
  pub given : List Outcome
  pub answers : AreAnswers tells outcome (asked_by (by_list given) words store files) given
  pub comes : ComesOver (linked_answer (by_list given) r words store files) m status
  pub says : SaysOver (linked_answer (by_list given) r words store files) differs status before after faults_before faults_after
