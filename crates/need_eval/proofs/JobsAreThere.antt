-- The job of a resolved thunk, and that its own resolved thunk is that thunk.
use Rattle.std.proofs.Common.{◌≡◌, ℕ, List, [], ◌∷◌, Option, Some, None, length, map, refl, ap, subst, ◌∙◌, arith}
use Rattle.std.specs.Prelude.{IsSome}
use Rattle.std.specs.List.{AllByRecursion}
use Rattle.object_name.specs.Name.{ObjectName, name_of}
use Rattle.thunk_codec.specs.declared.job.Job.{Job}
use Rattle.thunk_codec.specs.declared.reference.Ref.{Ref}
use Rattle.thunk_codec.specs.declared.reference.Ref.TheVariants.{Value}
use Rattle.thunk_codec.specs.Thunk.{Parts}
use Rattle.thunk_codec.specs.Resolved.{refs_of, resolved_by, with_values}
use Rattle.blob_store.specs.Store.{Store, held}
use Rattle.need_eval.specs.declared.fault.Refusal.TheVariants.{Missing}
use Rattle.need_eval.specs.Eval.{State, Refused, Got, go_on, ◌>>=◌, give, need, each}
use Rattle.need_eval.specs.Evaluation.{object, input_object, job_of}
use Rattle.need_eval.proofs.ReadingStops.{job_of-gives, input_object_gives}
use Rattle.need_eval.proofs.JobsOfThunks.{held-named}
use Rattle.need_eval.specs.MetObjects.{AreHeld, IsHeld}
use Rattle.need_eval.specs.StopAndAgain.{resolved, value_input}
use Rattle.need_eval.proofs.HeldStays.{HoldsAll}
use Rattle.need_eval.proofs.Places.{all-more}

-- all objects of a job are held
abbrev pub HeldJob : Store → Job → Type 0
HeldJob store job = IsHeld store job.function × AllByRecursion (λ input. IsHeld store input.1) job.inputs

object-gives : (bytes : List ℕ) (s : State) → IsHeld s.store bytes → object (name_of bytes) s ≡ Got bytes s
object-gives bytes s there = ap (λ found. need found (Refused (Missing (name_of bytes))) s) there

inputs-give : (inputs : List (List ℕ × List ℕ)) (s : State) → AllByRecursion (λ input. IsHeld s.store input.1) inputs → each input_object (map value_input inputs) s ≡ Got inputs s
inputs-give [] s h = refl
inputs-give (i ∷ is) s h =
    ap (λ e. go_on e (λ y. each input_object (map value_input is) >>= λ ys. give (y ∷ ys))) (input_object_gives (value_input i) s i.0 i.1 refl (object-gives i.1 s h.0))
    ∙ ap (λ e. go_on e (λ ys. give (i ∷ ys))) (inputs-give is s h.1)

pub job-is : (job : Job) (s : State) → HeldJob s.store job → job_of (resolved job) s ≡ Got job s
job-is job s h = job_of-gives (resolved job) s job (object-gives job.function s h.0) (inputs-give job.inputs s h.1) refl refl refl

pub held-more : (old now : Store) → HoldsAll old now → (job : Job) → HeldJob old job → HeldJob now job
held-more old now holds job h = (holds (name_of job.function) job.function h.0, inputs job.inputs h.1)
  where
    one : (bytes : List ℕ) → IsHeld old bytes → IsHeld now bytes
    one bytes was = holds (name_of bytes) bytes was

    inputs : (all : List (List ℕ × List ℕ)) → AllByRecursion (λ input. IsHeld old input.1) all → AllByRecursion (λ input. IsHeld now input.1) all
    inputs all h = all-more (λ input. IsHeld old input.1) (λ input. IsHeld now input.1) (λ input was. one input.1 was) all h

-- the bytes of a name
record Read (store : Store) (name : ObjectName) : Type 0 where
  bytes : List ℕ
  named : name_of bytes ≡ name
  there : IsHeld store bytes

read : (store : Store) (name : ObjectName) → IsSome (held store.objects name) → Read store name
read store name some = by (held store.objects name) refl some
  where
    by : (o : Option (List ℕ)) → held store.objects name ≡ o → IsSome o → Read store name
    by None is some = absurd (cc some)
    by (Some bytes) is some = let named = held-named store.objects name bytes is in record { bytes = bytes; named = named; there = ap (held store.objects) named ∙ is }

record ReadAll (store : Store) (inputs : List (List ℕ × Ref)) (values : List ObjectName) : Type 0 where
  all : List (List ℕ × List ℕ)
  same : map value_input all ≡ with_values inputs values
  there : AllByRecursion (λ input. IsHeld store input.1) all

read-all : (store : Store) (inputs : List (List ℕ × Ref)) (values : List ObjectName) → length values ≡ length (map (λ input. input.1) inputs) → AreHeld store values → ReadAll store inputs values
read-all store [] values number h = record { all = []; same = refl; there = tt }
read-all store (input ∷ inputs) [] number h = absurd (grind arith)
read-all store (input ∷ inputs) (value ∷ values) number h =
    let one = read store value h.0 in
    let rest = read-all store inputs values (omega (arith, number)) h.1 in
    record { all = (input.0, one.bytes) ∷ rest.all; same = λ i. (input.0, Value (one.named i)) ∷ rest.same i; there = (one.there, rest.there) }

pub record Made (store : Store) (t : Parts) : Type 0 where
  pub job : Job
  pub same : resolved job ≡ t
  pub there : HeldJob store job

pub job-resolved : (store : Store) (t : Parts) (values : List ObjectName) → length values ≡ length (refs_of t) → AreHeld store values → Made store (resolved_by t values)
job-resolved store t [] number h = absurd (grind arith)
job-resolved store t (value ∷ values) number h =
    let one = read store value h.0 in
    let rest = read-all store t.inputs values (omega (arith, number)) h.1 in
    record {
      job = record { function = one.bytes; args = t.args; envs = t.envs; inputs = rest.all; outputs = t.outputs };
      same = λ i. record { function = Value (one.named i); args = t.args; envs = t.envs; inputs = rest.same i; outputs = t.outputs };
      there = (one.there, rest.there);
    }

-- it is the job of that thunk, in each state with this store
pub made-job : (t : Parts) (s : State) (made : Made s.store t) → job_of t s ≡ Got made.job s
made-job t s made = subst (λ (t : Parts). job_of t s ≡ Got made.job s) made.same (job-is made.job s made.there)
