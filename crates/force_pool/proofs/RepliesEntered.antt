-- Replies that are entered.
use Rattle.std.proofs.Common.{◌≡◌, ℕ, List, [], ◌∷◌, Some, sym, ◌∙◌, subst, inl, inr}
use Rattle.thunk_codec.specs.declared.job.Job.{Job}
use Rattle.thunk_codec.specs.declared.job.Outcome.{Outcome}
use Rattle.thunk_codec.specs.declared.job.Outcome.TheVariants as outcomes
use Rattle.thunk_codec.specs.Outcome.{Fits}
use Rattle.job_wire.specs.Answer.{FitsAnObject}
use Rattle.worker_link.specs.Link.{IsReply}
use Rattle.worker_link.specs.Sent.{only_job}
use Rattle.force_core.specs.Book.{IsOutcome}
use Rattle.force_pool.specs.declared.entered.Entered.{Entered}
use Rattle.force_pool.specs.declared.entered.Entered.TheVariants.{Done, Differs, Memory}
use Rattle.force_pool.specs.Entering.{DiffersUnlessTold}
use Rattle.force_pool.specs.Links.{AllTold}
use Rattle.force_pool.proofs.LeasesSent.{IsAmong, among-at, only-is}

fits-object : (job : Job) (o : Outcome) → Fits job o → FitsAnObject o
fits-object job (outcomes.Done outputs) fits = fits.1
fits-object job (outcomes.Failed status) fits = tt

-- a reply's outcome is within the size of an object
pub reply-fits : (tells : Job → Type 0) (outcome : Job → Outcome) (sent : List (ℕ × Job)) (lease : ℕ) (o : Outcome) → IsReply tells outcome sent lease o → FitsAnObject o
reply-fits tells outcome sent lease o reply = fits-object reply.at.job o reply.at.fits

among-told : (tells : Job → Type 0) (lease : ℕ) (job : Job) (ps : List (ℕ × Job)) → AllTold tells ps → IsAmong lease job ps → tells job
among-told tells lease job [] all among = absurd among
among-told tells lease job (p ∷ ps) all (inl here) = subst tells here.1 all.0
among-told tells lease job (p ∷ ps) all (inr there) = among-told tells lease job ps all.1 there

module _ (tells : Job → Type 0) (outcome : Job → Outcome) (sent : List (ℕ × Job)) (lease : ℕ) (o : Outcome) (job : Job) (only : only_job lease sent ≡ Some job) (reply : IsReply tells outcome sent lease o) where
  among : IsAmong lease reply.at.job sent
  among = among-at sent reply.place (lease, reply.at.job) reply.at.was_sent

  same-job : reply.at.job ≡ job
  same-job = only-is lease reply.at.job job sent only among

  -- the reply is of the job that was sent under its lease
  pub reply-outcome : (sealed : Outcome) → sealed ≡ o → IsOutcome tells outcome job sealed
  reply-outcome sealed same =
      subst (λ (j : Job). IsOutcome tells outcome j sealed) same-job
      (record { fits = subst (λ (x : Outcome). Fits reply.at.job x) (sym same) reply.at.fits; told = λ t. same ∙ reply.at.told t })

  reply-told : AllTold tells sent → tells job
  reply-told all = subst tells same-job (among-told tells lease reply.at.job sent all among)

  -- where it differs from the first, not all that was sent is told
  pub reply-differs : (entered : Entered) → DiffersUnlessTold (tells job) entered → DiffersUnlessTold (AllTold tells sent) entered
  reply-differs Done d = tt
  reply-differs (Differs resolved first second) d = (d.0, λ all. d.1 (reply-told all))
  reply-differs Memory d = tt
