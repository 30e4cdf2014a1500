-- The job of a thunk: it is made where its objects are all held, and its length is known by the sizes in their names.
use Rattle.std.proofs.Common.{◌≡◌, ℕ, Bool, true, false, cond, List, [], ◌∷◌, Option, Some, None, length, map, refl, sym, ap, subst, ◌∙◌}
use Rattle.std.specs.Prelude.{option_and_then, IsSome}
use Rattle.std.specs.Ordering.{eq_by_cmp}
use Rattle.std.specs.List.{AllByRecursion}
use Rattle.std.proofs.lemmas.Option.{same_Some, none-some}
use Rattle.object_name.specs.Name.{ObjectName, name_of, name_cmp}
use Rattle.thunk_codec.specs.declared.job.Job.{Job}
use Rattle.thunk_codec.specs.declared.reference.Ref.{Ref}
use Rattle.thunk_codec.specs.Thunk.{Parts}
use Rattle.thunk_codec.specs.Resolved.{refs_of}
use Rattle.thunk_codec.specs.Job.{ref_name, job_size, size_by_lengths, resolved_size, with_length, with_size}
use Rattle.thunk_codec.proofs.PublicLaws.{job_size_by_lengths}
use Rattle.blob_store.specs.Store.{Contents, if_named, held}
use Rattle.object_name.proofs.PublicLaws.{eq_by_cmp-name}
use Rattle.need_eval.specs.declared.fault.Refusal.TheVariants.{Missing}
use Rattle.need_eval.specs.Eval.{State, Stop, Refused, Ended, Got, Stopped, Eval, go_on, ◌>>=◌, give, need, each}
use Rattle.need_eval.specs.Evaluation.{object, input_object, job_of}
use Rattle.need_eval.specs.WritePrefix.{state_after}
use Rattle.need_eval.proofs.ReadingStops.{input_object_gives, job_of-gives}

-- ---- what is held has its name

-- bytes that pass a test were kept
kept-held : (bytes found : List ℕ) (name : ObjectName) (named : Bool) → eq_by_cmp name_cmp (name_of bytes) name ≡ named → cond named (Some bytes) None ≡ Some found → name_of found ≡ name
kept-held bytes found name true named is = ap name_of (sym (same_Some bytes found is)) ∙ (eq_by_cmp-name (name_of bytes) name).0 named
kept-held bytes found name false named is = absurd (none-some found is)

found-named : (there : Option (List ℕ)) (name : ObjectName) (found : List ℕ) → option_and_then (if_named name) there ≡ Some found → name_of found ≡ name
found-named None name found is = absurd (none-some found is)
found-named (Some bytes) name found is = kept-held bytes found name (eq_by_cmp name_cmp (name_of bytes) name) refl is

pub held-named : (contents : Contents) (name : ObjectName) (bytes : List ℕ) → held contents name ≡ Some bytes → name_of bytes ≡ name
held-named contents name bytes is = found-named (contents name) name bytes is

-- ---- what an evaluation gave

-- an end is that of something given
abbrev IsGot : {A : Type 0} → Ended A → Type 0
IsGot (Got x s) = Unit {0}
IsGot (Stopped why s) = ⊥

-- what was given, or else this
abbrev given_or : {A : Type 0} → A → Ended A → A
given_or other (Got x s) = x
given_or other (Stopped why s) = other

stopped-got : {A : Type 0} (why : Stop) (s : State) (x : A) (t : State) → Stopped why s ≡ Got x t → ⊥
stopped-got why s x t is = subst IsGot (sym is) tt

-- what follows gave this after something was given first
record Follows {A B : Type 0} (e : Ended A) (f : A → Eval B) (y : B) (t : State) : Type 0 where
  x : A
  middle : State
  first : e ≡ Got x middle
  last : f x middle ≡ Got y t

follows : {A B : Type 0} (e : Ended A) (f : A → Eval B) (y : B) (t : State) → go_on e f ≡ Got y t → Follows e f y t
follows (Got x s) f y t is = record { x = x; middle = s; first = refl; last = is }
follows (Stopped why s) f y t is = absurd (stopped-got why s y t is)

need-given : {A : Type 0} (found : Option A) (why : Stop) (s : State) (x : A) (t : State) → need found why s ≡ Got x t → (found ≡ Some x) × (s ≡ t)
need-given (Some y) why s x t is = (ap (λ e. Some (given_or y e)) is, ap state_after is)
need-given None why s x t is = absurd (stopped-got why s x t is)

-- ---- the length of the job

-- an object that was read is as long as its name says
object-size : (name : ObjectName) (bytes : List ℕ) (s t : State) → object name s ≡ Got bytes t → length bytes ≡ name.size
object-size name bytes s t is =
    ap (λ name. name.size) (held-named s.store.objects name bytes (need-given (held s.store.objects name) (Refused (Missing name)) s bytes t is).0)

input-length : (input : List ℕ × Ref) (read : List ℕ × List ℕ) (s t : State) → input_object input s ≡ Got read t → with_length read ≡ with_size input
input-length input read s t is =
    let both = follows (object (ref_name input.1) s) (λ bytes. give (input.0, bytes)) read t is in
    ap (λ e. with_length (given_or read e)) (sym both.last)
    ∙ ap (λ size. (input.0, size)) (object-size (ref_name input.1) both.x s both.middle both.first)

input-lengths : (inputs : List (List ℕ × Ref)) (read : List (List ℕ × List ℕ)) (s t : State) → each input_object inputs s ≡ Got read t → map with_length read ≡ map with_size inputs
input-lengths [] read s t is = ap (λ e. map with_length (given_or read e)) (sym is)
input-lengths (input ∷ inputs) read s t is =
    let one = follows (input_object input s) (λ y. each input_object inputs >>= λ ys. give (y ∷ ys)) read t is in
    let all = follows (each input_object inputs one.middle) (λ ys. give (one.x ∷ ys)) read t one.last in
    ap (λ e. map with_length (given_or read e)) (sym all.last)
    ∙ ap (λ y. y ∷ map with_length all.x) (input-length input one.x s one.middle one.first)
    ∙ ap (λ ys. with_size input ∷ ys) (input-lengths inputs all.x one.middle all.middle all.first)

-- the job with these objects
abbrev job_with : Parts → List ℕ → List (List ℕ × List ℕ) → Job
job_with t function inputs = record { function = function; args = t.args; envs = t.envs; inputs = inputs; outputs = t.outputs }

pub job-length : (t : Parts) (s u : State) (job : Job) → job_of t s ≡ Got job u → job_size job ≡ resolved_size t
unfolding resolved_size
job-length t s u job is =
    let one = follows (object (ref_name t.function) s) (λ function. each input_object t.inputs >>= λ inputs. give (job_with t function inputs)) job u is in
    let all = follows (each input_object t.inputs one.middle) (λ inputs. give (job_with t one.x inputs)) job u one.last in
    ap (λ e. job_size (given_or job e)) (sym all.last)
    ∙ job_size_by_lengths (job_with t one.x all.x)
    ∙ ap (λ size. size_by_lengths size t.args t.envs (map with_length all.x) t.outputs) (object-size (ref_name t.function) one.x s one.middle one.first)
    ∙ ap (λ inputs. size_by_lengths (ref_name t.function).size t.args t.envs inputs t.outputs) (input-lengths t.inputs all.x one.middle all.middle all.first)

-- ---- the job is made

-- an object that is held is read
record Read (name : ObjectName) (s : State) : Type 0 where
  bytes : List ℕ
  gives : object name s ≡ Got bytes s

read-found : (name : ObjectName) (s : State) (found : Option (List ℕ)) → held s.store.objects name ≡ found → IsSome found → Read name s
read-found name s (Some bytes) is some = record { bytes = bytes; gives = ap (λ found. need found (Refused (Missing name)) s) is }
read-found name s None is some = absurd (cc some)

-- the object of a REF is held
abbrev RefHeld : State → Ref → Type 0
RefHeld s r = IsSome (held s.store.objects (ref_name r))

read-held : (r : Ref) (s : State) → RefHeld s r → Read (ref_name r) s
read-held r s some = read-found (ref_name r) s (held s.store.objects (ref_name r)) refl some

record ReadAll (inputs : List (List ℕ × Ref)) (s : State) : Type 0 where
  read : List (List ℕ × List ℕ)
  gives : each input_object inputs s ≡ Got read s

read-inputs : (inputs : List (List ℕ × Ref)) (s : State) → AllByRecursion (RefHeld s) (map (λ input. input.1) inputs) → ReadAll inputs s
read-inputs [] s all = record { read = []; gives = refl }
read-inputs (input ∷ inputs) s all =
    let one = read-held input.1 s all.0 in
    let more = read-inputs inputs s all.1 in
    record {
      read = (input.0, one.bytes) ∷ more.read;
      gives =
          ap (λ e. go_on e (λ y. each input_object inputs >>= λ ys. give (y ∷ ys))) (input_object_gives input s input.0 one.bytes refl one.gives)
          ∙ ap (λ e. go_on e (λ ys. give ((input.0, one.bytes) ∷ ys))) more.gives;
    }

pub job-made : (t : Parts) (s : State) → AllByRecursion (λ r. IsSome (held s.store.objects (ref_name r))) (refs_of t) → (job : Job) × (job_of t s ≡ Got job s)
job-made t s all =
    let function = read-held t.function s all.0 in
    let inputs = read-inputs t.inputs s all.1 in
    let job = job_with t function.bytes inputs.read in
    (job, job_of-gives t s job function.gives inputs.gives refl refl refl)
