-- Looking for a job that was sent under a lease and that an outcome fits.
use Rattle.std.proofs.Common.{◌≡◌, ℕ, zero, suc, List, [], ◌∷◌, Option, Some, None, refl, sym, ap, subst, ◌∙◌}
use Rattle.std.proofs.lemmas.Option.{same_Some}
use Rattle.thunk_codec.specs.declared.job.Job.{Job}
use Rattle.thunk_codec.specs.declared.job.Outcome.{Outcome}
use Rattle.thunk_codec.specs.Outcome.{Fits}
use Rattle.worker_link.specs.Link.{IsReply, IsReplyAt}
use Rattle.worker_link.specs.Stream.{none_told, some_outcome}

-- the first job is one
pub reply_first : (one : ℕ × Job) (others : List (ℕ × Job)) (lease : ℕ) (given : Outcome) → one.0 ≡ lease → Fits one.1 given → IsReply none_told some_outcome (one ∷ others) lease given
reply_first one others lease given same fits = record {
  place = 0;
  at = record { job = one.1; was_sent = ap (λ (k : ℕ). Some (k, one.1)) same; fits = fits; told = λ t. absurd t };
}

-- a later one is
pub reply_later : (one : ℕ × Job) (others : List (ℕ × Job)) (lease : ℕ) (given : Outcome) → IsReply none_told some_outcome others lease given → IsReply none_told some_outcome (one ∷ others) lease given
reply_later one others lease given h = record {
  place = suc h.place;
  at = record { job = h.at.job; was_sent = h.at.was_sent; fits = h.at.fits; told = h.at.told };
}

behind : (one : ℕ × Job) (others : List (ℕ × Job)) (lease : ℕ) (given : Outcome) (place : ℕ) → IsReplyAt none_told some_outcome (one ∷ others) place lease given → (one.0 ≡ lease → Fits one.1 given → ⊥) → IsReply none_told some_outcome others lease given
behind one others lease given zero h not =
    let e : one ≡ (lease, h.job) = same_Some one (lease, h.job) h.was_sent in
    absurd (not (ap (λ (v : ℕ × Job). v.0) e) (subst (λ (v : ℕ × Job). Fits v.1 given) (sym e) h.fits))
behind one others lease given (suc place) h not = record {
  place = place;
  at = record { job = h.job; was_sent = h.was_sent; fits = h.fits; told = h.told };
}

-- where the first isn't one, a later one is
pub reply_behind : (one : ℕ × Job) (others : List (ℕ × Job)) (lease : ℕ) (given : Outcome) → IsReply none_told some_outcome (one ∷ others) lease given → (one.0 ≡ lease → Fits one.1 given → ⊥) → IsReply none_told some_outcome others lease given
reply_behind one others lease given h not = behind one others lease given h.place h.at not

none_is : {A : Type 0} {P : Type 0} (x : A) → None ≡ Some x → P
none_is x e = absurd cc

-- nothing was sent
pub no_reply : (lease : ℕ) (given : Outcome) → IsReply none_told some_outcome [] lease given → ⊥
no_reply lease given h = none_is (lease, h.at.job) h.at.was_sent
