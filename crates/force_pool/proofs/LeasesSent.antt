-- Jobs that were sent under leases.
use Rattle.std.proofs.Common.{◌≡◌, ℕ, List, [], ◌∷◌, slice_get, Bool, true, false, ◌==◌, Some, None, refl, sym, ap, ◌∙◌, arith, inl, inr, ◌⊎◌, zero, suc}
use Rattle.std.specs.Prelude.{if◌then◌else◌}
use Rattle.std.proofs.lemmas.Bool.Decides.{nat_tests}
use Rattle.thunk_codec.specs.declared.job.Job.{Job}
use Rattle.worker_link.specs.Sent.{has_lease, only_job}

-- a job was sent under a lease
abbrev pub IsAmong : ℕ → Job → List (ℕ × Job) → Type 0
IsAmong lease job [] = ⊥
IsAmong lease job (p ∷ ps) = ((p.0 ≡ lease) × (p.1 ≡ job)) ⊎ IsAmong lease job ps

pub among-at : (ps : List (ℕ × Job)) (k : ℕ) (p : ℕ × Job) → slice_get ps k ≡ Some p → IsAmong p.0 p.1 ps
among-at [] k p is = absurd (grind arith)
among-at (q ∷ qs) zero p is = let e : q ≡ p = grind arith in inl (ap (λ (p : ℕ × Job). p.0) e, ap (λ (p : ℕ × Job). p.1) e)
among-at (q ∷ qs) (suc k) p is = inr (among-at qs k p is)

none-among : (lease : ℕ) (job : Job) (ps : List (ℕ × Job)) → has_lease lease ps ≡ false → IsAmong lease job ps → ⊥
none-among lease job [] none among = among
none-among lease job (p ∷ ps) none (inl here) = let e : (p.0 == lease) ≡ true = grind (arith, nat_tests) in absurd (grind (arith, nat_tests))
none-among lease job (p ∷ ps) none (inr there) = let e : has_lease lease ps ≡ false = grind (arith, nat_tests) in none-among lease job ps e there

only-here : (lease : ℕ) (job one : Job) (p : ℕ × Job) (ps : List (ℕ × Job)) (b : Bool) → has_lease lease ps ≡ b → (if b then None else Some p.1) ≡ Some one → IsAmong lease job (p ∷ ps) → job ≡ one
only-here lease job one p ps true has is among = absurd (grind arith)
only-here lease job one p ps false has is (inl here) = let e : p.1 ≡ one = grind arith in sym here.1 ∙ e
only-here lease job one p ps false has is (inr there) = absurd (none-among lease job ps has there)

only-step : (lease : ℕ) (job one : Job) (p : ℕ × Job) (ps : List (ℕ × Job)) → (only_job lease ps ≡ Some one → IsAmong lease job ps → job ≡ one)
    → (b : Bool) → (p.0 == lease) ≡ b → (if b then (if has_lease lease ps then None else Some p.1) else only_job lease ps) ≡ Some one → IsAmong lease job (p ∷ ps) → job ≡ one
only-step lease job one p ps deeper true here is among = only-here lease job one p ps (has_lease lease ps) refl is among
only-step lease job one p ps deeper false here is (inl this) = absurd (grind (arith, nat_tests))
only-step lease job one p ps deeper false here is (inr there) = deeper is there

-- under a lease under which exactly one job was sent, that one was
pub only-is : (lease : ℕ) (job one : Job) (ps : List (ℕ × Job)) → only_job lease ps ≡ Some one → IsAmong lease job ps → job ≡ one
only-is lease job one [] is among = absurd among
only-is lease job one (p ∷ ps) is among = only-step lease job one p ps (only-is lease job one ps) (p.0 == lease) refl is among
