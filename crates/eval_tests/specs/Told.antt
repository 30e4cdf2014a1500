-- A function of jobs for tests: each job with one output has the text of one thunk for it, and any other job fails.
use Rattle.std.specs.Prelude.{◌≡◌, ℕ, List, [], ◌∷◌, ◌++◌, codes, length}
use Rattle.std.proofs.Common.{lit≤, refl, sym, ap}
use Rattle.thunk_codec.specs.declared.job.Job.{Job}
use Rattle.thunk_codec.specs.declared.job.Outcome.{Outcome}
use Rattle.thunk_codec.specs.declared.job.Outcome.TheVariants.{Done, Failed}
use Rattle.thunk_codec.specs.Outcome.{Fits}

-- the text of a thunk whose function is the object without bytes, and which has one output
abbrev pub own_text : List ℕ
own_text = codes "gg-thunk 1" ++ 10 ∷ codes "f V47DEQpj8HBSa-_TImW-5JCeuQeRkm5NMpJWZG3hSuFU00000000" ++ 10 ∷ codes "o 3:out" ++ 10 ∷ codes "end" ++ 10 ∷ []

-- the outcome of a job with these outputs
abbrev pub outcome_for : List (List ℕ) → Outcome
outcome_for [] = Failed 1
outcome_for (only ∷ []) = Done (own_text ∷ [])
outcome_for (first ∷ second ∷ others) = Failed 1

abbrev pub own_outcome : Job → Outcome
own_outcome job = outcome_for job.outputs

fits_for : (job : Job) (outputs : List (List ℕ)) → job.outputs ≡ outputs → Fits job (outcome_for outputs)
fits_for job [] is = (lit≤ tt, lit≤ tt)
fits_for job (only ∷ []) is = (sym (ap length is), lit≤ tt)
fits_for job (first ∷ second ∷ others) is = (lit≤ tt, lit≤ tt)

pub own_fits : (job : Job) → Fits job (own_outcome job)
own_fits job = fits_for job job.outputs refl
