-- Evaluations that stop and begin again: which notes are true for them, what a stopped one leaves, and when two of them end alike.
use Rattle.std.specs.Prelude.{◌≡◌, ◌⊎◌, ℕ, List, map, length, slice_get, Some, None}
use Rattle.object_name.specs.Name.{ObjectName, name_of}
use Rattle.thunk_codec.specs.declared.job.Job.{Job}
use Rattle.thunk_codec.specs.declared.job.Outcome.{Outcome}
use Rattle.thunk_codec.specs.declared.job.Outcome.TheVariants.{Done}
use Rattle.thunk_codec.specs.declared.reference.Ref.{Ref}
use Rattle.thunk_codec.specs.declared.reference.Ref.TheVariants.{Value}
use Rattle.thunk_codec.specs.Outcome.{Fits}
use Rattle.thunk_codec.specs.Thunk.{Parts, text_of}
use Rattle.blob_store.specs.Store.{Store}
use Rattle.reduction_cache.specs.Note.{NoteOf}
use Rattle.reduction_cache.specs.Reading.{note_of}
use Rattle.need_eval.specs.Eval.{Ended, Got, Stopped, start}
use Rattle.need_eval.specs.Evaluation.{values_of, by_function}
use Rattle.need_eval.specs.WritePrefix.{state_after, IsWritePrefix}
use Rattle.need_eval.specs.MetObjects.{IsMet, HaveOwnNames}

-- an input of a job, by the name of its value
abbrev pub value_input : List ℕ × List ℕ → List ℕ × Ref
value_input input = (input.0, Value (name_of input.1))

-- the thunk of a job, whose REFs are all values
abbrev pub resolved : Job → Parts
resolved job = record { function = Value (name_of job.function); args = job.args; envs = job.envs; inputs = map value_input job.inputs; outputs = job.outputs }

-- the name under which the job is noted
abbrev pub resolved_name : Job → ObjectName
resolved_name job = name_of (text_of (resolved job))

-- the store as it is, but without notes
abbrev pub without_notes : Store → Store
without_notes store = record { objects = store.objects; notes = λ name. None }

-- all jobs to which an evaluation comes: those that are asked for where there are no notes
abbrev pub jobs_met : (Job → Outcome) → ℕ → List Ref → Store → List Job
jobs_met outcome budget refs first = (state_after (values_of (by_function outcome) budget refs (start (without_notes first)))).asked

-- where these bytes are a note for a job, with as many outputs, they name the outputs that the function gives for it
abbrev pub IsTrueNote : (Job → Outcome) → Job → List ℕ → Type 0
IsTrueNote outcome job bytes = (note : NoteOf) → note_of bytes ≡ Some note → note.resolved ≡ resolved_name job → length note.outputs ≡ length job.outputs →
    (outputs : List (List ℕ)) × (outcome job ≡ Done outputs) × (note.outputs ≡ map name_of outputs)

-- the notes of a store for these jobs are true
abbrev pub TrueNotes : (Job → Outcome) → Store → List Job → Type 0
TrueNotes outcome store jobs = (place : ℕ) (job : Job) (bytes : List ℕ) → slice_get jobs place ≡ Some job → store.notes (resolved_name job) ≡ Some bytes → IsTrueNote outcome job bytes

-- the text of the resolved thunk of one of these jobs
pub record IsResolvedText (jobs : List Job) (bytes : List ℕ) : Type 0 where
  pub place : ℕ
  pub job : Job
  pub is_met : slice_get jobs place ≡ Some job
  pub text : bytes ≡ text_of (resolved job)

-- an object that such an evaluation meets, or the text of a resolved thunk
abbrev pub IsMetOrText : (Job → Outcome) → Store → List Job → List ℕ → Type 0
IsMetOrText outcome first jobs bytes = IsMet (by_function outcome) first jobs bytes ⊎ IsResolvedText jobs bytes

-- two evaluations give the same, or stop for the same reason
abbrev pub SameAnswer : {A : Type 0} → Ended A → Ended A → Type 0
SameAnswer (Got x s) (Got y t) = x ≡ y
SameAnswer (Got x s) (Stopped why t) = ⊥
SameAnswer (Stopped why s) (Got x t) = ⊥
SameAnswer (Stopped why s) (Stopped other t) = why ≡ other

-- and take as many steps, and leave the same store
pub record EndAlike {A : Type 0} (e d : Ended A) : Type 0 where
  pub answer : SameAnswer e d
  pub steps : (state_after e).steps ≡ (state_after d).steps
  pub store : (state_after e).store ≡ (state_after d).store

-- and take as many steps, and leave the same objects
pub record EndAlikeButNotes {A : Type 0} (e d : Ended A) : Type 0 where
  pub answer : SameAnswer e d
  pub steps : (state_after e).steps ≡ (state_after d).steps
  pub objects : (state_after e).store.objects ≡ (state_after d).store.objects

-- a store after any number of stops: each time evaluation began over what was left, and made a prefix of its writes
pub data IsLeft (outcome : Job → Outcome) (budget : ℕ) (refs : List Ref) (first : Store) : Store → Type 0 where
  Begun : (now : Store) → now ≡ first → IsLeft outcome budget refs first now
  Again : (old now : Store) → IsLeft outcome budget refs first old → IsWritePrefix (start old) (values_of (by_function outcome) budget refs (start old)) now → IsLeft outcome budget refs first now

-- where evaluation may stop and begin again: outcomes fit their jobs, the store's notes for the jobs met are true, and no two
-- objects met have one name, resolved texts among them
pub record MayStop (outcome : Job → Outcome) (budget : ℕ) (refs : List Ref) (first : Store) : Type 0 where
  pub fits : (job : Job) → Fits job (outcome job)
  pub notes : TrueNotes outcome first (jobs_met outcome budget refs first)
  pub names : HaveOwnNames (IsMetOrText outcome first (jobs_met outcome budget refs first))

-- an object that one of two evaluations meets, the later over what the first left
abbrev pub IsMetByEither : (Job → Outcome) → ℕ → List Ref → Store → ℕ → List Ref → Store → List ℕ → Type 0
IsMetByEither outcome budget refs first later_budget later_refs now bytes =
    IsMetOrText outcome first (jobs_met outcome budget refs first) bytes ⊎ IsMetOrText outcome now (jobs_met outcome later_budget later_refs now) bytes
