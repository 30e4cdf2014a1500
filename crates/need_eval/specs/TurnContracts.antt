-- What the turns of a walker do, by their answers: words of the contracts of private functions.
use Rattle.std.specs.Prelude.{◌≡◌, ℕ, List, [], ◌∷◌, IsTrue, Option, Some, None, Result, Ok, Err, slice_get, if◌then◌else◌}
use Rattle.std.specs.Ordering.{eq_by_cmp}
use Rattle.object_name.specs.Name.{ObjectName, name_cmp}
use Rattle.thunk_codec.specs.declared.reference.Ref.TheVariants.{Out}
use Rattle.thunk_codec.specs.declared.job.Job.{Job}
use Rattle.thunk_codec.specs.declared.job.Outcome.{Outcome}
use Rattle.thunk_codec.specs.Thunk.{Parts}
use Rattle.thunk_codec.specs.Resolved.{resolved_by}
use Rattle.blob_store.specs.Store.{Store, Write}
use Rattle.need_eval.specs.declared.fault.EvalFault.{EvalFault}
use Rattle.need_eval.specs.declared.frame.Frame.{Frame}
use Rattle.need_eval.specs.declared.walker.Walker.{Walker}
use Rattle.need_eval.specs.declared.stage.Halt.{Halt}
use Rattle.need_eval.specs.declared.stage.Halt.TheVariants.{AtEnd, AtJob}
use Rattle.need_eval.specs.declared.waiting.Waiting.{Waiting}
use Rattle.need_eval.specs.Eval.{Got}
use Rattle.need_eval.specs.WalkerInvariant.{is_inside}
use Rattle.need_eval.specs.Walking.{walking, left, reduced_at, GoesOn, StandsAt}
use Rattle.need_eval.specs.StepContracts.{StopsReading, kept_in}

-- what is left of the evaluation stops so, with any answers
abbrev pub StopsAt : Walker → Store → EvalFault → Type 0
StopsAt before store fault = (answer : ℕ → Job → Option Outcome) (writes : List Write) (asked : List Job) →
    StopsReading (left answer before (walking before store writes asked)) (kept_in (walking before store writes asked)) fault

-- a walker went on, or stops
abbrev pub Turns : Walker → Walker → Store → Result (Unit {0}) EvalFault → Type 0
Turns before after store (Ok _) = GoesOn before after store
Turns before after store (Err fault) = StopsAt before store fault

-- the turns of a walker end: with the values that are left, or where the evaluation stands at a job
abbrev pub ComesTo : Walker → Walker → Store → Halt → Type 0
ComesTo before after store (AtEnd values) = (answer : ℕ → Job → Option Outcome) (writes : List Write) (asked : List Job) →
    left answer before (walking before store writes asked) ≡ Got values.names (walking after store writes asked)
ComesTo before after store (AtJob waiting) = GoesOn before after store × StandsAt after store waiting.prepared

-- a walker went on, or its turns end, or it stops
abbrev pub Turned : Walker → Walker → Store → Result (Option Halt) EvalFault → Type 0
Turned before after store (Ok None) = GoesOn before after store
Turned before after store (Ok (Some halt)) = ComesTo before after store halt
Turned before after store (Err fault) = StopsAt before store fault

-- the evaluation stands at a job, or stops
abbrev pub Asks : Walker → Store → Result Waiting EvalFault → Type 0
Asks w store (Ok waiting) = StandsAt w store waiting.prepared
Asks w store (Err fault) = StopsAt w store fault

-- the turns of a walker end, or it stops
abbrev pub HaltsAs : Walker → Walker → Store → Result Halt EvalFault → Type 0
HaltsAs before after store (Ok halt) = ComesTo before after store halt
HaltsAs before after store (Err fault) = StopsAt before store fault

-- whatever is told: the steps that the values took are those of the walker, and where a job is wanted it is inside a thunk
abbrev pub IsHalted : Walker → Halt → Type 0
IsHalted w (AtEnd values) = values.steps ≡ w.steps
IsHalted w (AtJob waiting) = IsTrue (is_inside w.frames.items w.level.rest.items)

-- this is an output of a thunk that was reduced
pub record IsOutput (w : Walker) (name : ObjectName) (index : ℕ) (output : ObjectName) : Type 0 where
  pub outputs : List ObjectName
  pub reduced : reduced_at w name ≡ Some outputs
  pub found : slice_get outputs index ≡ Some output

-- a walker has the limits of another and is at its stage
pub record IsInTurn (before after : Walker) : Type 0 where
  pub budget : after.budget ≡ before.budget
  pub retries : after.retries ≡ before.retries
  pub stage : after.stage ≡ before.stage

-- the innermost thunk has this name, and with the values that were gathered it is this one
pub record IsInnermost (w : Walker) (name : ObjectName) (t : Parts) : Type 0 where
  pub inner : Frame
  pub outer : List Frame
  pub frames : w.frames.items ≡ inner ∷ outer
  pub named : name ≡ inner.name
  pub resolved : t ≡ resolved_by inner.thunk w.level.done

-- the innermost thunk was left with these outputs, and the one that was wanted of them is next
pub record Leaves (before after : Walker) (outputs : List ObjectName) : Type 0 where
  pub inner : Frame
  pub outer : List Frame
  pub frames : before.frames.items ≡ inner ∷ outer
  pub left_frames : after.frames.items ≡ outer
  pub done : after.level.done ≡ inner.outer.done
  pub rest : after.level.rest.items ≡ Out inner.name inner.index ∷ inner.outer.rest.items
  pub reduced : (other : ObjectName) → reduced_at after other ≡ (if eq_by_cmp name_cmp inner.name other then Some outputs else reduced_at before other)
  pub steps : after.steps ≡ before.steps

-- a thunk was entered, all values that were wanted for the innermost are there, and this is its name
pub record IsReady (w : Walker) (name : ObjectName) : Type 0 where
  pub inner : Frame
  pub outer : List Frame
  pub frames : w.frames.items ≡ inner ∷ outer
  pub named : name ≡ inner.name
  pub gathered : w.level.rest.items ≡ []
