-- Jobs that were sent and are run one after another.
use Rattle.std.proofs.Common.{◌≡◌, ℕ, ◌+◌, ◌-◌, ◌<◌, Bool, true, List, ◌∷◌, [], ◌++◌, length, IfSome, Option, Some, None, length-append, subst, refl, sym, ap, ◌∙◌, arith}
use Rattle.std.specs.Prelude.{slice_get}
use Rattle.std.proofs.lemmas.Bool.{eq-eqb}
use Rattle.std.proofs.Math.ListN.{get_or-append}
use Rattle.std.proofs.lemmas.Option.{slice_get_within, slice_get-get_or, get_or_from_slice_get}
use Rattle.thunk_codec.specs.declared.job.Job.{Job}
use Rattle.thunk_codec.specs.declared.job.Outcome.{Outcome}
use Rattle.worker_link.specs.declared.phase.Phase.{Phase}
use Rattle.worker_link.specs.declared.phase.Phase.TheVariants.{Idle, Waiting}
use Rattle.worker_link.specs.Sent.{is_lease_of, is_latest}
use Rattle.worker_link.specs.Link.{after_reply, IsReply, IsReplyAt}
use Rattle.worker_link.specs.Queue.{IsQueue}
use Rattle.worker_link.specs.Script.{Replied}

-- the last job that was run is the latest
last_is_latest : (sent : List (ℕ × Job)) (ran : ℕ) (job : ℕ × Job) → slice_get sent ran ≡ Some job → ran + 1 ≡ length sent → is_latest sent job.0 ≡ true
last_is_latest sent ran job e last =
    let place : length sent - 1 ≡ ran = omega (arith, last) in
    ap (λ (k : ℕ). is_lease_of job.0 (slice_get sent k)) place ∙ ap (is_lease_of job.0) e ∙ eq-eqb job.0 job.0 refl

idle_not_waiting : {P : Type 0} → Idle ≡ Waiting → P
idle_not_waiting e = absurd cc

-- a queue stays one where the reply on its next job is given
pub queue_replied : (sent : List (ℕ × Job)) (ran lease : ℕ) (phase : Phase) (job : ℕ × Job) → slice_get sent ran ≡ Some job → lease ≡ job.0 → phase ≡ after_reply sent lease → IsQueue (record { sent = sent; ran = ran + 1; phase = phase })
queue_replied sent ran lease phase job e l p = record {
  within = omega (arith, slice_get_within sent ran job e);
  more = λ waiting last.
      let latest : is_latest sent lease ≡ true = ap (is_latest sent) l ∙ last_is_latest sent ran job e last in
      let idle : phase ≡ Idle = p ∙ rw latest refl in
      idle_not_waiting (sym idle ∙ waiting);
}

slice_get_more : {A : Type 0} (xs ys : List A) (i : ℕ) (x : A) → slice_get xs i ≡ Some x → slice_get (xs ++ ys) i ≡ Some x
slice_get_more xs ys i x e =
    let within = slice_get_within xs i x e in
    slice_get-get_or (xs ++ ys) i x (omega (arith, within, length-append xs ys)) ∙ ap (λ (v : _). Some v) (get_or-append xs ys x i within ∙ get_or_from_slice_get xs i x x e)

-- a reply stays one where more is sent
pub reply_more : (tells : Job → Type 0) (outcome : Job → Outcome) (sent more : List (ℕ × Job)) (lease : ℕ) (given : Outcome) → IsReply tells outcome sent lease given → IsReply tells outcome (sent ++ more) lease given
reply_more tells outcome sent more lease given h = record {
  place = h.place;
  at = record { job = h.at.job; was_sent = slice_get_more sent more h.place (lease, h.at.job) h.at.was_sent; fits = h.at.fits; told = h.at.told };
}

-- the same of a reply that may be held
pub held_more : (tells : Job → Type 0) (outcome : Job → Outcome) (sent more : List (ℕ × Job)) (held : Option (ℕ × Outcome)) → IfSome held (λ r. IsReply tells outcome sent r.0 r.1) → IfSome held (λ r. IsReply tells outcome (sent ++ more) r.0 r.1)
held_more tells outcome sent more None h = tt
held_more tells outcome sent more (Some r) h = reply_more tells outcome sent more r.0 r.1 h

-- the phase after the reply on the next job, where the queue is a part of a link's state
pub phase_at : (inside state : Replied) (phase : Phase) (lease : ℕ) (job : Job) → inside ≡ state → ((one : ℕ × Job) → slice_get inside.queue.sent inside.queue.ran ≡ Some one → phase ≡ after_reply inside.queue.sent one.0) → slice_get state.queue.sent state.queue.ran ≡ Some (lease, job) → phase ≡ after_reply state.queue.sent lease
phase_at inside state phase lease job e given at =
    subst (λ (v : Replied). phase ≡ after_reply v.queue.sent lease) e (given (lease, job) (subst (λ (v : Replied). slice_get v.queue.sent v.queue.ran ≡ Some (lease, job)) (sym e) at))
