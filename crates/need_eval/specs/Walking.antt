-- A walker and the store: what is left of the evaluation, and what the walker's calls do to it.
use Rattle.std.specs.Prelude.{◌≡◌, ◌≤◌, ◌+◌, ◌-◌, ◌*◌, ℕ, List, [], ◌∷◌, ◌++◌, length, sum_by, Bool, true, Option, Some, None, IsSome, Result, Ok, Err}
use Rattle.std.specs.Option.{option_map}
use Rattle.std.specs.HashMap.{get}
use Rattle.object_name.specs.Name.{ObjectName, name_of}
use Rattle.object_name.specs.contracts.name.NamePartialEq.TheImpl as name_equality
use Rattle.thunk_codec.specs.declared.job.Job.{Job}
use Rattle.thunk_codec.specs.declared.job.Outcome.{Outcome}
use Rattle.thunk_codec.specs.declared.reference.Ref.{Ref}
use Rattle.thunk_codec.specs.Thunk.{Parts, text_of}
use Rattle.thunk_codec.specs.Resolved.{resolved_by}
use Rattle.thunk_codec.specs.Job.{resolved_size, max_job}
use Rattle.blob_store.specs.Store.{Store, Write, written}
use Rattle.blob_store.specs.Keeping.{Kept}
use Rattle.reduction_cache.specs.Hit.{hit_of}
use Rattle.need_eval.specs.declared.fault.EvalFault.{EvalFault}
use Rattle.need_eval.specs.declared.frame.Frame.{Frame}
use Rattle.need_eval.specs.declared.prepared.Prepared.{Prepared}
use Rattle.need_eval.specs.declared.stage.Stage.TheVariants as stages
use Rattle.need_eval.specs.declared.walker.Walker.{Walker}
use Rattle.need_eval.specs.declared.walker.Walked.{Walked}
use Rattle.need_eval.specs.declared.walker.Walked.TheVariants.{Ended, Blocked}
use Rattle.need_eval.specs.Eval.{State, Eval, Got}
use Rattle.need_eval.specs.Evaluation.{job_of}
use Rattle.need_eval.specs.Machine.{resume}
use Rattle.need_eval.specs.WalkerInvariant.{waiting_in, is_end}
use Rattle.need_eval.specs.WritePrefix.{Stops}
use Rattle.need_eval.specs.StepContracts.{StopsReading, kept_in}

-- the outputs of the thunk of this name, where it was reduced
abbrev pub reduced_at : Walker → ObjectName → Option (List ObjectName)
reduced_at w name = get (name_equality.ghosts).eq w.reduced name

-- the state of the evaluation: what the walker and the store have of it, and the writes made and jobs asked for so far
abbrev pub walking : Walker → Store → List Write → List Job → State
walking w store writes asked = record { store = store; reduced = reduced_at w; steps = w.steps; writes = writes; asked = asked }

-- what is left of the evaluation
abbrev pub left : (ℕ → Job → Option Outcome) → Walker → Eval (List ObjectName)
left answer w = resume answer w.budget w.frames.items w.level.done w.level.rest.items

-- how much is left to be done, at most: each step may bring the REFs of a thunk
abbrev pub work_left : ℕ → List Frame → List Ref → ℕ
work_left steps_left frames rest = steps_left * 4100 + length rest + sum_by (λ frame. length frame.outer.rest.items + 2) frames

abbrev pub work_of : Walker → ℕ
work_of w = work_left (w.budget - w.steps) w.frames.items w.level.rest.items

-- a walker has the limits of another
pub record HasSetup (before after : Walker) : Type 0 where
  pub budget : after.budget ≡ before.budget
  pub retries : after.retries ≡ before.retries

-- nothing was done yet, and these are wanted
pub record IsFresh (refs : List Ref) (budget : ℕ) (w : Walker) : Type 0 where
  pub frames : w.frames.items ≡ []
  pub done : w.level.done ≡ []
  pub rest : w.level.rest.items ≡ refs
  pub reduced : (name : ObjectName) → reduced_at w name ≡ None
  pub steps : w.steps ≡ 0
  pub budgets : w.budget ≡ budget

-- a walker goes on when it is asked to
abbrev pub IsWalking : Walker → Type 0
IsWalking w = w.stage ≡ stages.Walking

-- the job whose outcome is waited for
abbrev pub blocked_at : Walker → Option Prepared
blocked_at w = option_map (λ waiting. waiting.prepared) (waiting_in w.stage)

-- whether the evaluation is over
abbrev pub is_over : Walker → Bool
is_over w = is_end w.stage

-- the resolved thunk inside the innermost
abbrev pub innermost : Frame → List ObjectName → Parts
innermost inner done = resolved_by inner.thunk done

-- the evaluation stands at the function of a thunk whose values are all there and of which no note is known: this is its text and
-- its job
pub record StandsAt (w : Walker) (store : Store) (p : Prepared) : Type 0 where
  pub inner : Frame
  pub outer : List Frame
  pub frames : w.frames.items ≡ inner ∷ outer
  pub no_rest : w.level.rest.items ≡ []
  pub small : resolved_size (innermost inner w.level.done) ≤ max_job
  pub no_hit : hit_of store (name_of (text_of (innermost inner w.level.done))) (length (innermost inner w.level.done).outputs) ≡ None
  pub text : p.text ≡ text_of (innermost inner w.level.done)
  pub job : (s : State) → s.store ≡ store → job_of (innermost inner w.level.done) s ≡ Got p.job s

-- a walker waits at this job, and the evaluation stands there
abbrev pub WaitsFor : Option Prepared → Walker → Store → Type 0
WaitsFor None w store = ⊥
WaitsFor (Some prepared) w store = StandsAt w store prepared

abbrev pub Waits : Walker → Store → Type 0
Waits w store = WaitsFor (blocked_at w) w store

-- a walker went on, and nothing was written: what is left is what was left, with any answers
abbrev pub GoesOn : Walker → Walker → Store → Type 0
GoesOn before after store = (answer : ℕ → Job → Option Outcome) (writes : List Write) (asked : List Job) →
    left answer before (walking before store writes asked) ≡ left answer after (walking after store writes asked)

-- what going on did, by its answer
abbrev pub Advances : Walker → Walker → Store → Result Walked EvalFault → Type 0
Advances before after store (Ok (Ended values)) = (answer : ℕ → Job → Option Outcome) (writes : List Write) (asked : List Job) →
    left answer before (walking before store writes asked) ≡ Got values.names (walking after store writes asked)
Advances before after store (Ok Blocked) = GoesOn before after store × Waits after store
Advances before after store (Err fault) = (answer : ℕ → Job → Option Outcome) (writes : List Write) (asked : List Job) →
    StopsReading (left answer before (walking before store writes asked)) (kept_in (walking before store writes asked)) fault

-- with the outcome of its job the evaluation went on, and made these writes, each of which was put once
pub record Supplied (before after : Walker) (p : Prepared) (outcome : Outcome) (old now : Kept) : Type 0 where
  pub made : List Write
  pub put : now.store ≡ written old.store made
  pub list : now.writes ≡ old.writes ++ made
  pub goes : (answer : ℕ → Job → Option Outcome) (writes : List Write) (asked : List Job) → answer (length asked) p.job ≡ Some outcome →
      left answer before (walking before old.store writes asked) ≡ left answer after (walking after now.store (writes ++ made) (asked ++ p.job ∷ []))

-- what supplying an outcome did, by its answer
abbrev pub Supplies : Walker → Walker → Prepared → Outcome → Kept → Kept → Result (Unit {0}) EvalFault → Type 0
Supplies before after p outcome old now (Ok _) = Supplied before after p outcome old now
Supplies before after p outcome old now (Err fault) = (answer : ℕ → Job → Option Outcome) (writes : List Write) (asked : List Job) → answer (length asked) p.job ≡ Some outcome →
    (first : List Write) → old.writes ≡ first ++ writes → Stops first (walking before old.store writes asked) (left answer before (walking before old.store writes asked)) now fault

-- a walker is over after its values and after a fault, and waits at a job
abbrev pub StandsAs : Walker → Result Walked EvalFault → Type 0
StandsAs w (Ok (Ended values)) = is_over w ≡ true
StandsAs w (Ok Blocked) = IsSome (blocked_at w)
StandsAs w (Err fault) = is_over w ≡ true

-- the steps that the values took are those of the walker
abbrev pub HasSteps : Walker → Walked → Type 0
HasSteps w (Ended values) = values.steps ≡ w.steps
HasSteps w Blocked = Unit {0}
