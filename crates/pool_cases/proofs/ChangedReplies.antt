-- A reply with another outcome in place of its own, where nothing is told.
use Rattle.std.proofs.Common.{ℕ, List}
use Rattle.thunk_codec.specs.declared.job.Job.{Job}
use Rattle.thunk_codec.specs.declared.job.Outcome.{Outcome}
use Rattle.thunk_codec.specs.Outcome.{Fits}
use Rattle.worker_link.specs.Link.{IsReply}

-- an outcome that fits each job that the given one fits comes in its place
pub changed_reply : (tells : Job → Type 0) (outcome : Job → Outcome) (sent : List (ℕ × Job)) (lease : ℕ) (given other : Outcome) → IsReply tells outcome sent lease given → ((job : Job) → Fits job given → Fits job other) → IsReply (λ job. ⊥) outcome sent lease other
changed_reply tells outcome sent lease given other reply fits = record { place = reply.place; at = record { job = reply.at.job; was_sent = reply.at.was_sent; fits = fits reply.at.job reply.at.fits; told = λ told. absurd told } }
