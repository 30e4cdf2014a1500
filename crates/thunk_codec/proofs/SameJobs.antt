-- Jobs that are the same by comparison are equal, and equal jobs are the same.
use Rattle.std.proofs.Common.{◌≡◌, ℕ, List, true, ◌&&◌, refl, ap, subst}
use Rattle.std.specs.Prelude.{bytes_eq}
use Rattle.std.specs.Bool.{Decides}
use Rattle.std.specs.Cmp.Lexicographic.{pointwise, bytes_decides}
use Rattle.std.proofs.lemmas.Slice.Eq.{slice_eq-Decides}
use Rattle.std.proofs.lemmas.Bool.{and_parts, and_from}
use Rattle.thunk_codec.specs.declared.job.Job.{Job}
use Rattle.thunk_codec.specs.Job.{same_pair, same_job}

pair-Decides : (a b : List ℕ × List ℕ) → Decides (same_pair a b) (a ≡ b)
pair-Decides a b = (
  (λ is.
      let p = and_parts (bytes_eq a.0 b.0) (bytes_eq a.1 b.1) is in
      let one = (bytes_decides a.0 b.0).0 p.0 in
      let two = (bytes_decides a.1 b.1).0 p.1 in
      λ i. (one i, two i)),
  (λ e. and_from (bytes_eq a.0 b.0) (bytes_eq a.1 b.1) ((bytes_decides a.0 b.0).1 (ap (λ (p : List ℕ × List ℕ). p.0) e)) ((bytes_decides a.1 b.1).1 (ap (λ (p : List ℕ × List ℕ). p.1) e))),
)

-- lists of bytes are compared one by one
texts-Decide : (a b : List (List ℕ)) → Decides (pointwise bytes_eq a b) (a ≡ b)
texts-Decide a b = slice_eq-Decides bytes_decides a b (pointwise bytes_eq a b) refl

pairs-Decide : (a b : List (List ℕ × List ℕ)) → Decides (pointwise same_pair a b) (a ≡ b)
pairs-Decide a b = slice_eq-Decides pair-Decides a b (pointwise same_pair a b) refl

pub same_job-equal : (a b : Job) → same_job a b ≡ true → a ≡ b
unfolding same_job
same_job-equal a b is =
    let outputs_here = pointwise bytes_eq a.outputs b.outputs in
    let inputs_on = pointwise same_pair a.inputs b.inputs && outputs_here in
    let envs_on = pointwise same_pair a.envs b.envs && inputs_on in
    let args_on = pointwise bytes_eq a.args b.args && envs_on in
    let p = and_parts (bytes_eq a.function b.function) args_on is in
    let q = and_parts (pointwise bytes_eq a.args b.args) envs_on p.1 in
    let r = and_parts (pointwise same_pair a.envs b.envs) inputs_on q.1 in
    let t = and_parts (pointwise same_pair a.inputs b.inputs) outputs_here r.1 in
    let function : a.function ≡ b.function = (bytes_decides a.function b.function).0 p.0 in
    let args : a.args ≡ b.args = (texts-Decide a.args b.args).0 q.0 in
    let envs : a.envs ≡ b.envs = (pairs-Decide a.envs b.envs).0 r.0 in
    let inputs : a.inputs ≡ b.inputs = (pairs-Decide a.inputs b.inputs).0 t.0 in
    let outputs : a.outputs ≡ b.outputs = (texts-Decide a.outputs b.outputs).0 t.1 in
    λ i. record { function = function i; args = args i; envs = envs i; inputs = inputs i; outputs = outputs i }

same_job-self : (a : Job) → same_job a a ≡ true
unfolding same_job
same_job-self a =
    and_from (bytes_eq a.function a.function) _ ((bytes_decides a.function a.function).1 refl)
    (and_from (pointwise bytes_eq a.args a.args) _ ((texts-Decide a.args a.args).1 refl)
    (and_from (pointwise same_pair a.envs a.envs) _ ((pairs-Decide a.envs a.envs).1 refl)
    (and_from (pointwise same_pair a.inputs a.inputs) _ ((pairs-Decide a.inputs a.inputs).1 refl) ((texts-Decide a.outputs a.outputs).1 refl))))

pub equal-same_job : (a b : Job) → a ≡ b → same_job a b ≡ true
equal-same_job a b e = subst (λ (other : Job). same_job a other ≡ true) e (same_job-self a)
