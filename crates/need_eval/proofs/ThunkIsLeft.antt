-- What is left of an evaluation after a walker came out of a thunk, or waits at its job.
use Rattle.std.proofs.lemmas.Bool.{and_parts, leb-true}
use Rattle.std.proofs.Common.{◌≡◌, ◌≤◌, ◌<◌, leb, ℕ, List, [], ◌∷◌, length, drop, slice_index_or, arith, Option, Some, None, refl, sym, ap, subst, ◌∙◌}
use Rattle.object_name.specs.declared.kind.Kind.TheVariants as kinds
use Rattle.object_name.specs.Kind.{kind_of}
use Rattle.object_name.specs.Name.{ObjectName, name_of}
use Rattle.thunk_codec.specs.declared.job.Job.{Job}
use Rattle.thunk_codec.specs.declared.job.Outcome.{Outcome}
use Rattle.thunk_codec.specs.Thunk.{Parts, IsThunk, keeps_numbers, text_of}
use Rattle.thunk_codec.specs.Resolved.{resolved_by}
use Rattle.thunk_codec.specs.Job.{resolved_size, max_job}
use Rattle.blob_store.specs.Store.{Store, Write}
use Rattle.reduction_cache.specs.Hit.{hit_of}
use Rattle.need_eval.specs.declared.fault.Refusal.TheVariants.{TooBig}
use Rattle.need_eval.specs.declared.fault.EvalFault.{EvalFault}
use Rattle.need_eval.specs.declared.fault.EvalFault.TheVariants as faults
use Rattle.need_eval.specs.declared.frame.Frame.{Frame}
use Rattle.need_eval.specs.declared.prepared.Prepared.{Prepared}
use Rattle.need_eval.specs.declared.walker.Walker.{Walker}
use Rattle.need_eval.specs.Eval.{State, Ended, Got}
use Rattle.need_eval.specs.Evaluation.{job_of, reduce}
use Rattle.need_eval.specs.Machine.{resume}
use Rattle.need_eval.specs.StepContracts.{StopsReading, kept_in}
use Rattle.need_eval.specs.Walking.{walking, left, StandsAt}
use Rattle.need_eval.specs.TurnContracts.{IsInnermost, Leaves}
use Rattle.need_eval.proofs.OneTurn.{marked, turn-end, turn-leave, turn-leave-stops, reduce-too-big, reduce-hit, reduce-job-stops, marked-reduced}

-- all is there
pub ends : (w : Walker) (store : Store) (answer : ℕ → Job → Option Outcome) (writes : List Write) (asked : List Job) (names : List ObjectName) (t : State) → w.frames.items ≡ [] → w.level.rest.items ≡ [] → names ≡ w.level.done → t ≡ walking w store writes asked → left answer w (walking w store writes asked) ≡ Got names t
ends w store answer writes asked names t frames rest same states =
    (λ i. resume answer w.budget (frames i) w.level.done (rest i) (walking w store writes asked))
    ∙ turn-end answer w.budget w.level.done (walking w store writes asked)
    ∙ λ i. Got (sym same i) (sym states i)

-- what stands first
pub first-of : {A : Type 0} (xs : List A) (x : A) → 0 < length xs → x ≡ slice_index_or xs 0 x → xs ≡ x ∷ drop 1 xs
first-of [] x within is = absurd (omega (arith, within))
first-of (y ∷ ys) x within is = ap (λ x. x ∷ ys) (sym is)

-- the first of some frames
abbrev pub prefix : Frame → List Frame → Frame
prefix other [] = other
prefix other (inner ∷ outer) = inner

-- the innermost thunk by the frames that another way of looking has
pub innermost-as : (w : Walker) (name : ObjectName) (t : Parts) (inner : Frame) (outer : List Frame) → w.frames.items ≡ inner ∷ outer → IsInnermost w name t → (name ≡ inner.name) × (t ≡ resolved_by inner.thunk w.level.done)
innermost-as w name t inner outer frames is =
    let same : is.inner ≡ inner = ap (prefix is.inner) (sym is.frames ∙ frames) in
    (is.named ∙ ap (λ (frame : Frame). frame.name) same, is.resolved ∙ ap (λ (frame : Frame). resolved_by frame.thunk w.level.done) same)

-- after the innermost thunk was left the state is the one in which it is reduced
pub left-state : (w after : Walker) (outputs : List ObjectName) (leaves : Leaves w after outputs) (store : Store) (writes : List Write) (asked : List Job) → marked leaves.inner.name outputs (walking w store writes asked) ≡ walking after store writes asked
left-state w after outputs leaves store writes asked = λ i. record {
  store = store;
  reduced = λ other. sym (leaves.reduced other) i;
  steps = sym leaves.steps i;
  writes = writes;
  asked = asked;
}

module _ (w : Walker) (store : Store) (answer : ℕ → Job → Option Outcome) (writes : List Write) (asked : List Job) (name : ObjectName) (t : Parts) (gathered : w.level.rest.items ≡ []) (is : IsInnermost w name t) where
  abbrev here : State
  here = walking w store writes asked

  at-inner : (inner : Frame) (outer : List Frame) → w.frames.items ≡ inner ∷ outer → left answer w here ≡ resume answer w.budget (inner ∷ outer) w.level.done [] here
  at-inner inner outer frames = λ i. resume answer w.budget (frames i) w.level.done (gathered i) here

  -- it can't be reduced
  pub stops-out : (fault : EvalFault) → StopsReading (reduce answer name t here) (kept_in here) fault → StopsReading (left answer w here) (kept_in here) fault
  stops-out fault h =
      subst (λ (e : Ended (List ObjectName)). StopsReading e (kept_in here) fault) (sym (at-inner is.inner is.outer is.frames))
      (turn-leave-stops answer w.budget is.inner is.outer w.level.done here (kept_in here) fault
      (subst (λ (e : Ended (List ObjectName)). StopsReading e (kept_in here) fault) (λ i. reduce answer (is.named i) (is.resolved i) here) h))

  -- its job is too big
  pub stops-too-big : max_job < resolved_size t → StopsReading (left answer w here) (kept_in here) (faults.Refused (TooBig name (resolved_size t)))
  stops-too-big big = stops-out (faults.Refused (TooBig name (resolved_size t))) (record { last = here; stopped = reduce-too-big answer name t here big; store = refl; list = refl })

  -- what its job is made of can't be read
  pub stops-at-job : (fault : EvalFault) → resolved_size t ≤ max_job → hit_of store (name_of (text_of t)) (length t.outputs) ≡ None → StopsReading (job_of t here) (kept_in here) fault → StopsReading (left answer w here) (kept_in here) fault
  stops-at-job fault small miss h = stops-out fault (reduce-job-stops answer name t here (kept_in here) fault small miss h)

  -- its outputs were noted
  pub comes-out : (after : Walker) (outputs : List ObjectName) → resolved_size t ≤ max_job → hit_of store (name_of (text_of t)) (length t.outputs) ≡ Some outputs → after.budget ≡ w.budget → Leaves w after outputs → left answer w here ≡ left answer after (walking after store writes asked)
  comes-out after outputs small hit budget leaves =
      let inner = leaves.inner in
      let same = innermost-as w name t inner leaves.outer leaves.frames is in
      let reduced : reduce answer inner.name (resolved_by inner.thunk w.level.done) here ≡ Got outputs (marked inner.name outputs here) =
      sym (λ i. reduce answer (same.0 i) (same.1 i) here) ∙ reduce-hit answer name t outputs here small hit ∙ ap (λ name. Got outputs (marked name outputs here)) same.0 in
      at-inner inner leaves.outer leaves.frames
      ∙ turn-leave answer w.budget inner leaves.outer w.level.done outputs here (marked inner.name outputs here) reduced (marked-reduced inner.name outputs here)
      ∙ λ i. resume answer (sym budget i) (sym leaves.left_frames i) (sym leaves.done i) (sym leaves.rest i) (left-state w after outputs leaves store writes asked i)

-- the text of a thunk is one by its kind
pub thunk-kind : (t : Parts) → kind_of (text_of t) ≡ kinds.Thunk
unfolding text_of
thunk-kind t = refl

-- a thunk has an output, and no more than 64
pub some-output : (t : Parts) → IsThunk t → (1 ≤ length t.outputs) × (length t.outputs ≤ 64)
some-output t thunk =
    let numbers = and_parts (keeps_numbers t) _ thunk.rules in
    let inputs = and_parts (leb (length t.inputs) 4096) _ numbers.0 in
    let outputs = and_parts (leb 1 (length t.outputs)) (leb (length t.outputs) 64) inputs.1 in
    (leb-true 1 (length t.outputs) outputs.0, leb-true (length t.outputs) 64 outputs.1)

-- it waits for the outcome of its job
pub stands-at : (w after : Walker) (store : Store) (name : ObjectName) (t : Parts) (p : Prepared) → w.level.rest.items ≡ [] → IsInnermost w name t → after.frames.items ≡ w.frames.items → after.level.rest.items ≡ w.level.rest.items → after.level.done ≡ w.level.done → resolved_size t ≤ max_job → hit_of store (name_of (text_of t)) (length t.outputs) ≡ None → p.text ≡ text_of t → ((s : State) → s.store ≡ store → job_of t s ≡ Got p.job s) → StandsAt after store p
stands-at w after store name t p gathered is frames rest done small miss text job =
    let whole : t ≡ resolved_by is.inner.thunk after.level.done = is.resolved ∙ ap (λ done. resolved_by is.inner.thunk done) (sym done) in
    record {
      inner = is.inner;
      outer = is.outer;
      frames = frames ∙ is.frames;
      no_rest = rest ∙ gathered;
      small = subst (λ (t : Parts). resolved_size t ≤ max_job) whole small;
      no_hit = subst (λ (t : Parts). hit_of store (name_of (text_of t)) (length t.outputs) ≡ None) whole miss;
      text = text ∙ ap text_of whole;
      job = λ s same. subst (λ (t : Parts). job_of t s ≡ Got p.job s) whole (job s same);
    }
