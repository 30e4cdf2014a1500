-- What an evaluation gives is held, and which objects it meets.
use Rattle.std.specs.Prelude.{◌≡◌, ◌<◌, ◌⊎◌, ℕ, List, slice_get, Option, Some, IsSome}
use Rattle.std.specs.List.{AllByRecursion}
use Rattle.object_name.specs.Name.{ObjectName, name_of}
use Rattle.thunk_codec.specs.declared.job.Job.{Job}
use Rattle.thunk_codec.specs.declared.job.Outcome.{Outcome}
use Rattle.thunk_codec.specs.declared.job.Outcome.TheVariants.{Done}
use Rattle.thunk_codec.specs.Thunk.{Parts}
use Rattle.thunk_codec.specs.Reading.{thunk_of}
use Rattle.thunk_codec.specs.Resolved.{resolved_by}
use Rattle.thunk_codec.specs.Job.{job_size, max_job}
use Rattle.blob_store.specs.Store.{Store, held}
use Rattle.blob_store.specs.Keeping.{HaveOneName}
use Rattle.need_eval.specs.Eval.{State, Got}
use Rattle.need_eval.specs.Evaluation.{job_of}

-- objects of these names are held
abbrev pub AreHeld : Store → List ObjectName → Type 0
AreHeld store names = AllByRecursion (λ name. IsSome (held store.objects name)) names

-- the object of these bytes is held
abbrev pub IsHeld : Store → List ℕ → Type 0
IsHeld store bytes = held store.objects (name_of bytes) ≡ Some bytes

-- the outputs of each reduced thunk are held
abbrev pub OutputsAreHeld : State → Type 0
OutputsAreHeld s = (name : ObjectName) (outputs : List ObjectName) → s.reduced name ≡ Some outputs → AreHeld s.store outputs

-- the thunk of this name, with some values for its REFs, has a job whose encoding is so long, which is over the limit
pub record HasBigJob (name : ObjectName) (size : ℕ) (s : State) : Type 0 where
  pub bytes : List ℕ
  pub thunk : Parts
  pub values : List ObjectName
  pub job : Job
  pub there : held s.store.objects name ≡ Some bytes
  pub read : thunk_of bytes ≡ Some thunk
  pub made : job_of (resolved_by thunk values) s ≡ Got job s
  pub length : size ≡ job_size job
  pub big : max_job < size

-- an output of the answer to a job that was asked for
pub record IsJobOutput (answer : ℕ → Job → Option Outcome) (asked : List Job) (bytes : List ℕ) : Type 0 where
  pub place : ℕ
  pub job : Job
  pub outputs : List (List ℕ)
  pub index : ℕ
  pub is_asked : slice_get asked place ≡ Some job
  pub answered : answer place job ≡ Some (Done outputs)
  pub one : slice_get outputs index ≡ Some bytes

-- an object that an evaluation meets: it was held at the start, or is such an output
abbrev pub IsMet : (ℕ → Job → Option Outcome) → Store → List Job → List ℕ → Type 0
IsMet answer first asked bytes = IsHeld first bytes ⊎ IsJobOutput answer asked bytes

-- each of these objects has a name of its own: no two have one name
abbrev pub HaveOwnNames : (List ℕ → Type 0) → Type 0
HaveOwnNames met = (a b : List ℕ) → met a → met b → name_of a ≡ name_of b → a ≡ b

-- the objects of a clash were met: what is held, and an output with its name
pub record ClashOfMet (answer : ℕ → Job → Option Outcome) (first : Store) (asked : List Job) (name : ObjectName) (found fresh : List ℕ) : Type 0 where
  pub two : HaveOneName name found fresh
  pub held : IsMet answer first asked found
  pub output : IsJobOutput answer asked fresh
