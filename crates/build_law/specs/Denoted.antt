-- What REFs denote by the function of jobs alone, and which notes are true.
use Rattle.std.specs.Prelude.{◌≡◌, ◌⊎◌, ℕ, zero, suc, List, [], ◌∷◌, length, map, slice_get, Option, Some, None}
use Rattle.object_name.specs.Name.{ObjectName, name_of}
use Rattle.thunk_codec.specs.declared.job.Job.{Job}
use Rattle.thunk_codec.specs.declared.job.Outcome.{Outcome}
use Rattle.thunk_codec.specs.declared.job.Outcome.TheVariants.{Done, Failed}
use Rattle.thunk_codec.specs.declared.reference.Ref.{Ref}
use Rattle.thunk_codec.specs.declared.reference.Ref.TheVariants.{Value, Out}
use Rattle.thunk_codec.specs.Reading.{thunk_of}
use Rattle.thunk_codec.specs.Resolved.{refs_of}
use Rattle.thunk_codec.specs.Thunk.{Parts, text_of}
use Rattle.text_lines.specs.Maybe.{◌>>=◌}
use Rattle.blob_store.specs.Store.{Store, Contents, held}
use Rattle.reduction_cache.specs.Note.{NoteOf}
use Rattle.reduction_cache.specs.Reading.{note_of}
use Rattle.build_law.specs.Jobs.{resolved_name}

-- the inputs of a job by what the REFs of a thunk denote
abbrev pub inputs_by : (Ref → Option (List ℕ)) → List (List ℕ × Ref) → Option (List (List ℕ × List ℕ))
inputs_by value [] = Some []
inputs_by value (input ∷ inputs) = do
  bytes ← value input.1
  others ← inputs_by value inputs
  Some ((input.0, bytes) ∷ others)

-- the job of a thunk by what its REFs denote
abbrev pub job_by_values : (Ref → Option (List ℕ)) → Parts → Option Job
job_by_values value t = do
  function ← value t.function
  inputs ← inputs_by value t.inputs
  Some (record { function = function; args = t.args; envs = t.envs; inputs = inputs; outputs = t.outputs })

-- an output, if there is one
abbrev pub output_at : Outcome → ℕ → Option (List ℕ)
output_at (Done outputs) place = slice_get outputs place
output_at (Failed status) place = None

module _ (outcome : Job → Outcome) (objects : Contents) where
  -- the bytes that a REF denotes, through at most so many thunks one below another: no note and no kept output is looked at
  unfoldable pub denoted_within : ℕ → Ref → Option (List ℕ)
  denoted_within depth (Value name) = held objects name
  denoted_within zero (Out name place) = None
  denoted_within (suc depth) (Out name place) = do
    text ← held objects name
    t ← thunk_of text
    job ← job_by_values (denoted_within depth) t
    output_at (outcome job) place

-- a REF is one of some
abbrev pub IsRefOf : Ref → List Ref → Type 0
IsRefOf ref [] = ⊥
IsRefOf ref (first ∷ others) = (first ≡ ref) ⊎ IsRefOf ref others

-- the thunks to which the evaluation of some REFs comes: those of the REFs, and those of the REFs of such a thunk
pub data Reached (objects : Contents) (refs : List Ref) : Parts → Type 0 where
  Wanted : (name : ObjectName) (place : ℕ) (t : Parts) → IsRefOf (Out name place) refs
      → held objects name ≡ Some (text_of t) → Reached objects refs t
  Further : (s : Parts) (name : ObjectName) (place : ℕ) (t : Parts) → Reached objects refs s → IsRefOf (Out name place) (refs_of s)
      → held objects name ≡ Some (text_of t) → Reached objects refs t

-- the note for a job is true: if it is one, has the name of the job's resolved text and as many outputs, these are the function's
abbrev pub NoteIsTrue : (Job → Outcome) → Store → Job → Type 0
NoteIsTrue outcome store job = (bytes : List ℕ) (note : NoteOf) → store.notes (resolved_name job) ≡ Some bytes → note_of bytes ≡ Some note
    → note.resolved ≡ resolved_name job → length note.outputs ≡ length job.outputs
    → (outputs : List (List ℕ)) × (outcome job ≡ Done outputs) × (note.outputs ≡ map name_of outputs)

-- the notes of a store are true for the jobs of all thunks to which the evaluation of some REFs comes
abbrev pub NotesAreTrue : (Job → Outcome) → Store → Contents → List Ref → Type 0
NotesAreTrue outcome store objects refs = (t : Parts) → Reached objects refs t → (depth : ℕ) (job : Job)
    → job_by_values (denoted_within outcome objects depth) t ≡ Some job → NoteIsTrue outcome store job
