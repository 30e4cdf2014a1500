-- The outcomes of the cards have the form that their jobs want.
use Rattle.std.proofs.Common.{◌≡◌, ◌≤◌, ℕ, List, length, true, Option, Some, None, Ok, Err, sym, eqb-true, lit≤}
use Rattle.std.specs.Prelude.{◌==◌, codes}
use Rattle.std.proofs.lemmas.Bool.{and_parts, cond_both}
use Rattle.thunk_codec.specs.declared.job.Job.{Job}
use Rattle.thunk_codec.specs.declared.job.Outcome.TheVariants.{Failed}
use Rattle.thunk_codec.specs.Job.{only_input}
use Rattle.thunk_codec.specs.Outcome.{HasForm}
use Rattle.tool_bin.specs.declared.link_fault.LinkFault.{LinkFault}
use Rattle.tool_bin.specs.declared.link_fault.LinkFault.TheVariants.{BadForm, BadArchive, DuplicateSymbol, UndefinedSymbol, NotAnObject}
use Rattle.tool_bin.specs.OneOutput.{source_of, plain_source_of, output_outcome, made_outcome}
use Rattle.tool_bin.specs.Compile.{compiled, is_debugging, cc1_outcome}
use Rattle.tool_bin.specs.Assemble.{assembled_text, as_outcome}
use Rattle.tool_bin.specs.Strip.{stripped, strip_outcome}
use Rattle.tool_bin.specs.Ar.{ArchiveTask, table_task, task_of, archive_for, ar_outcome, ranlib_outcome}
use Rattle.tool_bin.specs.LinkSteps.{Linked, fault_status}
use Rattle.tool_bin.specs.Link.{is_link_job, linked, executable_outcome, ld_outcome}

one : (job : Job) → (length job.outputs == 1) ≡ true → 1 ≡ length job.outputs
one job is = sym (eqb-true (length job.outputs) 1 is)

-- status 64
refused_form : (job : Job) → HasForm job (Failed 64)
refused_form job = (lit≤ tt, lit≤ tt)

module _ (job : Job) (status : ℕ) (low : 1 ≤ status) (high : status ≤ 204) where
  -- an output that was made, or a status
  output_form : 1 ≡ length job.outputs → (output : Option (List ℕ)) → HasForm job (output_outcome status output)
  output_form is None = (low, high)
  output_form is (Some output) = is

  module _ {A : Type 0} (make : A → Option (List ℕ)) where
    made_form : 1 ≡ length job.outputs → (asked : Option A) → HasForm job (made_outcome status make asked)
    made_form is None = refused_form job
    made_form is (Some asked) = output_form is (make asked)

  module _ (make : List ℕ → Option (List ℕ)) where
    -- a source with one output, or none
    source_form : HasForm job (made_outcome status make (source_of job))
    source_form = cond_both (length job.outputs == 1) _ _ (λ source. HasForm job (made_outcome status make source))
        (λ is. made_form make (one job is) (only_input (codes "in") job.inputs)) (λ _. refused_form job)

    plain_form : HasForm job (made_outcome status make (plain_source_of job))
    plain_form = cond_both (length job.args == 0) _ _ (λ source. HasForm job (made_outcome status make source)) (λ _. source_form) (λ _. refused_form job)

pub cc1_form : (job : Job) → HasForm job (cc1_outcome job)
cc1_form job = source_form job 81 (lit≤ tt) (lit≤ tt) (compiled (is_debugging job.args))

pub as_form : (job : Job) → HasForm job (as_outcome job)
as_form job = plain_form job 82 (lit≤ tt) (lit≤ tt) assembled_text

pub strip_form : (job : Job) → HasForm job (strip_outcome job)
strip_form job = plain_form job 86 (lit≤ tt) (lit≤ tt) stripped

task_form : (job : Job) → 1 ≡ length job.outputs → (task : Option ArchiveTask) → HasForm job (made_outcome 83 archive_for task)
task_form job is task = made_form job 83 (lit≤ tt) (lit≤ tt) archive_for is task

pub ar_form : (job : Job) → HasForm job (ar_outcome job)
ar_form job = cond_both (length job.outputs == 1) _ _ (HasForm job) (λ is. task_form job (one job is) (task_of job.args job.inputs)) (λ _. refused_form job)

pub ranlib_form : (job : Job) → HasForm job (ranlib_outcome job)
ranlib_form job = cond_both (length job.outputs == 1) _ _ (HasForm job)
    (λ is. cond_both (length job.args == 0) _ _ (HasForm job) (λ _. task_form job (one job is) (table_task job.inputs)) (λ _. refused_form job)) (λ _. refused_form job)

fault_form : (job : Job) (fault : LinkFault) → HasForm job (Failed (fault_status fault))
fault_form job BadForm = (lit≤ tt, lit≤ tt)
fault_form job BadArchive = (lit≤ tt, lit≤ tt)
fault_form job DuplicateSymbol = (lit≤ tt, lit≤ tt)
fault_form job UndefinedSymbol = (lit≤ tt, lit≤ tt)
fault_form job NotAnObject = (lit≤ tt, lit≤ tt)

linked_form : (job : Job) → 1 ≡ length job.outputs → (linked : Linked) → HasForm job (executable_outcome linked)
linked_form job is (Ok program) = is
linked_form job is (Err fault) = fault_form job fault

pub ld_form : (job : Job) → HasForm job (ld_outcome job)
unfolding linked
ld_form job = cond_both (is_link_job job) _ _ (λ linked. HasForm job (executable_outcome linked))
    (λ is. linked_form job (one job (and_parts _ _ is).0) _) (λ _. refused_form job)
