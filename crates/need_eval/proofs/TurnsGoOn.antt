-- What is left of an evaluation after a turn of a walker.
use Rattle.std.proofs.Common.{◌≡◌, ◌≤◌, ◌<◌, ℕ, suc, List, [], ◌∷◌, ◌++◌, drop, Option, Some, None, refl, sym, ap, subst, ◌∙◌}
use Rattle.std.proofs.lemmas.Bool.{lt-ltb, le-ltb}
use Rattle.object_name.specs.declared.kind.Kind.TheVariants as kinds
use Rattle.object_name.specs.Name.{ObjectName}
use Rattle.thunk_codec.specs.declared.reference.Ref.{Ref}
use Rattle.thunk_codec.specs.declared.reference.Ref.TheVariants.{Value, Out}
use Rattle.thunk_codec.specs.declared.job.Job.{Job}
use Rattle.thunk_codec.specs.declared.job.Outcome.{Outcome}
use Rattle.thunk_codec.specs.Thunk.{Parts}
use Rattle.thunk_codec.specs.Resolved.{refs_of}
use Rattle.blob_store.specs.Store.{Store, Write}
use Rattle.need_eval.specs.declared.fault.Refusal.TheVariants.{NoOutput, Spent}
use Rattle.need_eval.specs.declared.fault.EvalFault.{EvalFault}
use Rattle.need_eval.specs.declared.frame.Frame.{Frame}
use Rattle.need_eval.specs.declared.walker.Walker.{Walker}
use Rattle.need_eval.specs.Eval.{State, Refused, Ended, Got, go_on, need, check, step}
use Rattle.need_eval.specs.Evaluation.{object, thunk_at, count_step}
use Rattle.need_eval.specs.Machine.{resume}
use Rattle.need_eval.specs.StepContracts.{StopsReading, StopsUnwritten, kept_in, entry, stepped}
use Rattle.need_eval.specs.Walking.{walking, left, reduced_at}
use Rattle.need_eval.specs.TurnContracts.{IsOutput}
use Rattle.need_eval.proofs.ReadingStops.{StopsReading-go_on}
use Rattle.need_eval.proofs.OneTurn.{pick, turn-value, turn-value-stops, turn-known-value, turn-known-thunk, turn-known-stops, turn-known-spent, turn-enter, turn-enter-stops}

-- a step that the budget has
counted : (budget : ℕ) (name : ObjectName) (s : State) → s.steps < budget → count_step budget name s ≡ Got tt (stepped s)
counted budget name s has = ap (λ test. go_on (check test (Refused (Spent name budget)) s) (λ _. step)) (lt-ltb s.steps budget has)

-- a step that it hasn't
pub not-counted : (budget : ℕ) (name : ObjectName) (s : State) → budget ≤ s.steps → StopsUnwritten (Refused (Spent name budget)) (count_step budget name s) (kept_in s)
not-counted budget name s spent = record { last = s; stopped = ap (λ test. go_on (check test (Refused (Spent name budget)) s) (λ _. step)) (le-ltb s.steps budget spent); store = refl; list = refl }

module _ (w : Walker) (store : Store) (answer : ℕ → Job → Option Outcome) (writes : List Write) (asked : List Job) where
  abbrev pub here : State
  here = walking w store writes asked

  -- what stands next
  at-next : (next : Ref) → w.level.rest.items ≡ next ∷ drop 1 w.level.rest.items → left answer w here ≡ resume answer w.budget w.frames.items w.level.done (next ∷ drop 1 w.level.rest.items) here
  at-next next is = ap (λ (rest : List Ref). resume answer w.budget w.frames.items w.level.done rest here) is

  stops-at-next : (next : Ref) (fault : EvalFault) → w.level.rest.items ≡ next ∷ drop 1 w.level.rest.items → StopsReading (resume answer w.budget w.frames.items w.level.done (next ∷ drop 1 w.level.rest.items) here) (kept_in here) fault → StopsReading (left answer w here) (kept_in here) fault
  stops-at-next next fault is h = subst (λ (e : Ended (List ObjectName)). StopsReading e (kept_in here) fault) (sym (at-next next is)) h

  -- a value
  pub onward-value : (name : ObjectName) (done : List ObjectName) (rest : List Ref) (bytes : List ℕ) → w.level.rest.items ≡ Value name ∷ drop 1 w.level.rest.items → done ≡ w.level.done ++ name ∷ [] → rest ≡ drop 1 w.level.rest.items → object name here ≡ Got bytes here → left answer w here ≡ resume answer w.budget w.frames.items done rest here
  onward-value name done rest bytes is dones rests held =
      at-next (Value name) is
      ∙ turn-value answer w.budget w.frames.items w.level.done name (drop 1 w.level.rest.items) bytes here held
      ∙ λ i. resume answer w.budget w.frames.items (sym dones i) (sym rests i) here

  pub onward-value-stops : (name : ObjectName) (fault : EvalFault) → w.level.rest.items ≡ Value name ∷ drop 1 w.level.rest.items → StopsReading (object name here) (kept_in here) fault → StopsReading (left answer w here) (kept_in here) fault
  onward-value-stops name fault is h =
      stops-at-next (Value name) fault is (turn-value-stops answer w.budget w.frames.items w.level.done name (drop 1 w.level.rest.items) here (kept_in here) fault h)

  module _ (name : ObjectName) (index : ℕ) (is : w.level.rest.items ≡ Out name index ∷ drop 1 w.level.rest.items) where
    -- an output of a thunk that was reduced
    module _ (output : ObjectName) (known : IsOutput w name index output) where
      picked : pick name index known.outputs here ≡ Got output here
      picked = ap (λ found. need found (Refused (NoOutput name index)) here) known.found

      pub onward-known : (done : List ObjectName) (rest : List Ref) → output.kind ≡ kinds.Value → done ≡ w.level.done ++ output ∷ [] → rest ≡ drop 1 w.level.rest.items → left answer w here ≡ resume answer w.budget w.frames.items done rest here
      onward-known done rest kind dones rests =
          at-next (Out name index) is
          ∙ turn-known-value answer w.budget w.frames.items w.level.done name index (drop 1 w.level.rest.items) known.outputs output here known.reduced picked kind
          ∙ λ i. resume answer w.budget w.frames.items (sym dones i) (sym rests i) here

      pub onward-pass : (done : List ObjectName) (rest : List Ref) (steps : ℕ) → output.kind ≡ kinds.Thunk → w.steps < w.budget → done ≡ w.level.done → rest ≡ Out output 0 ∷ drop 1 w.level.rest.items → steps ≡ suc w.steps → left answer w here ≡ resume answer w.budget w.frames.items done rest (record here { steps = steps })
      onward-pass done rest steps kind has dones rests stepping =
          at-next (Out name index) is
          ∙ turn-known-thunk answer w.budget w.frames.items w.level.done name index (drop 1 w.level.rest.items) known.outputs output here (stepped here) known.reduced picked kind (counted w.budget output here has)
          ∙ λ i. resume answer w.budget w.frames.items (sym dones i) (sym rests i) (record here { steps = sym stepping i })

      pub onward-spent : (fault : EvalFault) → output.kind ≡ kinds.Thunk → StopsReading (count_step w.budget output here) (kept_in here) fault → StopsReading (left answer w here) (kept_in here) fault
      onward-spent fault kind h =
          stops-at-next (Out name index) fault is
          (turn-known-spent answer w.budget w.frames.items w.level.done name index (drop 1 w.level.rest.items) known.outputs output here (kept_in here) fault known.reduced picked kind h)

    -- an output that isn't there
    pub onward-no-output : (outputs : List ObjectName) (fault : EvalFault) → reduced_at w name ≡ Some outputs → StopsReading (pick name index outputs here) (kept_in here) fault → StopsReading (left answer w here) (kept_in here) fault
    onward-no-output outputs fault reduced h =
        stops-at-next (Out name index) fault is
        (turn-known-stops answer w.budget w.frames.items w.level.done name index (drop 1 w.level.rest.items) outputs here (kept_in here) fault reduced h)

    -- a thunk that wasn't reduced
    module _ (fresh : reduced_at w name ≡ None) where
      pub onward-enter : (t : Parts) (frame : Frame) (frames : List Frame) (done : List ObjectName) (rest : List Ref) (steps : ℕ) → thunk_at name here ≡ Got t here → entry w.budget name index t here ≡ Got t (stepped here) → frame.name ≡ name → frame.index ≡ index → frame.thunk ≡ t → frame.outer.done ≡ w.level.done → frame.outer.rest.items ≡ drop 1 w.level.rest.items → frames ≡ frame ∷ w.frames.items → done ≡ [] → rest ≡ refs_of t → steps ≡ suc w.steps → left answer w here ≡ resume answer w.budget frames done rest (record here { steps = steps })
      onward-enter t frame frames done rest steps read entering names indices thunks dones rests framed nothing wanted stepping =
          at-next (Out name index) is
          ∙ turn-enter answer w.budget w.frames.items w.level.done name index (drop 1 w.level.rest.items) here t (stepped here) frame fresh
          (ap (λ e. go_on e (entry w.budget name index)) read ∙ entering) names indices thunks dones rests
          ∙ λ i. resume answer w.budget (sym framed i) (sym nothing i) (sym wanted i) (record here { steps = sym stepping i })

      pub onward-thunk-stops : (fault : EvalFault) → StopsReading (thunk_at name here) (kept_in here) fault → StopsReading (left answer w here) (kept_in here) fault
      onward-thunk-stops fault h =
          stops-at-next (Out name index) fault is
          (turn-enter-stops answer w.budget w.frames.items w.level.done name index (drop 1 w.level.rest.items) here (kept_in here) fault fresh
          (StopsReading-go_on (entry w.budget name index) (thunk_at name here) (kept_in here) fault h))

      pub onward-entry-stops : (t : Parts) (fault : EvalFault) → thunk_at name here ≡ Got t here → StopsReading (entry w.budget name index t here) (kept_in here) fault → StopsReading (left answer w here) (kept_in here) fault
      onward-entry-stops t fault read h =
          stops-at-next (Out name index) fault is
          (turn-enter-stops answer w.budget w.frames.items w.level.done name index (drop 1 w.level.rest.items) here (kept_in here) fault fresh
          (subst (λ (e : Ended Parts). StopsReading e (kept_in here) fault) (sym (ap (λ e. go_on e (entry w.budget name index)) read)) h))
