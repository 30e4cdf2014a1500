-- Ledgers: the thunks that were made, the last first, with their jobs and values by the function alone.
use Rattle.std.proofs.Common.{◌≡◌, ◌≤◌, ◌⊎◌, ℕ, zero, suc, ◌+◌, Bool, true, false, cond, List, [], ◌∷◌, Option, Some, None, length}
use Rattle.std.specs.Prelude.{is_some}
use Rattle.std.specs.Ordering.{eq_by_cmp}
use Rattle.object_name.specs.declared.kind.Kind.TheVariants as kinds
use Rattle.object_name.specs.Kind.{kind_of}
use Rattle.object_name.specs.Name.{ObjectName, IsName, name_of, name_cmp}
use Rattle.thunk_codec.specs.declared.reference.Ref.{Ref}
use Rattle.thunk_codec.specs.declared.reference.Ref.TheVariants.{Value, Out}
use Rattle.thunk_codec.specs.declared.job.Job.{Job}
use Rattle.thunk_codec.specs.declared.job.Outcome.{Outcome}
use Rattle.thunk_codec.specs.declared.job.Outcome.TheVariants.{Done}
use Rattle.thunk_codec.specs.Job.{job_size, max_job}
use Rattle.thunk_codec.specs.Thunk.{Parts, text_of}
use Rattle.thunk_codec.specs.Reading.{thunk_of}
use Rattle.blob_store.specs.Store.{Contents, Store, held}
use Rattle.reduction_cache.specs.Reading.{note_of}
use Rattle.reduction_cache.specs.Note.{NoteOf}
use Rattle.build_plan.specs.Symbolic.{one_output}
pub use Rattle.build_law.specs.Jobs.{value_input, resolved, resolved_name}

pub record Entry : Type 0 where
  pub name : ObjectName
  pub thunk : Parts
  pub job : Job
  pub value : List ℕ

-- the value of the one output of a thunk
abbrev pub valued : List Entry → ObjectName → Option (List ℕ)
valued [] name = None
valued (e ∷ L) name = cond (eq_by_cmp name_cmp e.name name) (Some e.value) (valued L name)

-- the bytes that a REF denotes: those of a value that is held, or the value of a thunk
abbrev pub denoted : Contents → List Entry → Ref → Option (List ℕ)
denoted objects L (Value name) = held objects name
denoted objects L (Out name zero) = valued L name
denoted objects L (Out name (suc k)) = None

abbrev pub AreInputs : (Ref → Option (List ℕ)) → List (List ℕ × Ref) → List (List ℕ × List ℕ) → Type 0
AreInputs value [] [] = Unit {0}
AreInputs value [] (j ∷ js) = ⊥
AreInputs value (i ∷ is) [] = ⊥
AreInputs value (i ∷ is) (j ∷ js) = (i.0 ≡ j.0) × (value i.1 ≡ Some j.1) × AreInputs value is js

-- the job of a thunk by what its REFs denote
pub record IsJob (value : Ref → Option (List ℕ)) (t : Parts) (job : Job) : Type 0 where
  pub function : value t.function ≡ Some job.function
  pub inputs : AreInputs value t.inputs job.inputs
  pub args : t.args ≡ job.args
  pub envs : t.envs ≡ job.envs
  pub outputs : t.outputs ≡ job.outputs

-- one thunk more, over the earlier ones
pub record IsEntry (outcome : Job → Outcome) (objects : Contents) (L : List Entry) (e : Entry) : Type 0 where
  pub there : held objects e.name ≡ Some (text_of e.thunk)
  pub read : thunk_of (text_of e.thunk) ≡ Some e.thunk
  pub job : IsJob (denoted objects L) e.thunk e.job
  pub one : e.job.outputs ≡ one_output
  pub does : outcome e.job ≡ Done (e.value ∷ [])
  pub kind : kind_of e.value ≡ kinds.Value
  pub fresh : valued L e.name ≡ None

abbrev pub IsLedger : (Job → Outcome) → Contents → List Entry → Type 0
IsLedger outcome objects [] = Unit {0}
IsLedger outcome objects (e ∷ L) = IsEntry outcome objects L e × IsLedger outcome objects L

abbrev pub Among : Entry → List Entry → Type 0
Among e [] = ⊥
Among e (x ∷ L) = (x ≡ e) ⊎ Among e L

-- a note for the thunk's resolved one says its value
abbrev pub NoteTrue : Store → Entry → Type 0
NoteTrue store e = (bytes : List ℕ) (note : NoteOf) → store.notes (resolved_name e.job) ≡ Some bytes → note_of bytes ≡ Some note →
    note.resolved ≡ resolved_name e.job → length note.outputs ≡ 1 → note.outputs ≡ name_of e.value ∷ []

-- what is asked of the thunks of a ledger
pub record Fair (L : List Entry) : Type 0 where
  pub one_value : (a b : Entry) → Among a L → Among b L → name_of a.value ≡ name_of b.value → a.value ≡ b.value
  pub one_job : (a b : Entry) → Among a L → Among b L → resolved_name a.job ≡ resolved_name b.job → a.job ≡ b.job
  pub small : (a : Entry) → Among a L → job_size a.job ≤ max_job
  pub named : (a : Entry) → Among a L → IsName (name_of a.value)
  pub resolved_named : (a : Entry) → Among a L → IsName (resolved_name a.job)

abbrev pub unmarked : Bool → ℕ
unmarked true = 0
unmarked false = 1

-- the thunks that were not reduced yet
abbrev pub left : (ObjectName → Option (List ObjectName)) → List Entry → ℕ
left reduced [] = 0
left reduced (e ∷ L) = unmarked (is_some (reduced e.name)) + left reduced L
