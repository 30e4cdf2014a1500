-- What evaluations keep: a relation of two states that holds of a state and itself, and over two runs where it holds over each,
-- holds over a whole evaluation where it holds over what the evaluation does.
use Rattle.std.proofs.Common.{◌≡◌, ◌<◌, ℕ, zero, suc, List, [], ◌∷◌, ◌++◌, Bool, true, false, cond, Option, Some, None, length, refl}
use Rattle.std.specs.Prelude.{nat_lt, nat_le, slice_get, is_some}
use Rattle.std.proofs.lemmas.Bool.{ltb-true}
use Rattle.object_name.specs.declared.kind.Kind.{Kind}
use Rattle.object_name.specs.declared.kind.Kind.TheVariants as kinds
use Rattle.object_name.specs.Name.{ObjectName, name_of}
use Rattle.thunk_codec.specs.declared.reference.Ref.{Ref}
use Rattle.thunk_codec.specs.declared.reference.Ref.TheVariants.{Value, Out}
use Rattle.thunk_codec.specs.declared.job.Job.{Job}
use Rattle.thunk_codec.specs.declared.job.Outcome.{Outcome}
use Rattle.thunk_codec.specs.declared.job.Outcome.TheVariants.{Done, Failed}
use Rattle.thunk_codec.specs.Thunk.{Parts, text_of}
use Rattle.thunk_codec.specs.Reading.{thunk_of}
use Rattle.thunk_codec.specs.Resolved.{refs_of, resolved_by}
use Rattle.thunk_codec.specs.Job.{ref_name, resolved_size, max_job}
use Rattle.blob_store.specs.Store.{Store, Write, held, own_write, other_held, storing}
use Rattle.blob_store.specs.Store.Write.{Object, Note}
use Rattle.reduction_cache.specs.Hit.{hit_of, note_write}
use Rattle.need_eval.specs.declared.fault.Refusal.TheVariants.{Missing, BadThunk, NoOutput, Spent, TooBig}
use Rattle.need_eval.specs.declared.frame.Frame.{Frame}
use Rattle.need_eval.specs.Eval.{State, Stop, Refused, Ended, Got, Stopped, Eval, ◌>>=◌, go_on, give, check, need, each, step, make_write, mark}
use Rattle.need_eval.specs.Evaluation.{object, held_value, thunk_at, input_object, job_of, no_clash, store_one, outputs_by, finished, ask, outputs_of, reduce, count_step, entered, outputs_at, output_of, passed, value_by, beyond, value_within, value_of, values_of}
use Rattle.need_eval.specs.Machine.{resume}
use Rattle.need_eval.specs.WritePrefix.{state_after}

-- the relation holds between the state before an evaluation and the state after it
abbrev pub Keeps : {A : Type 0} → (State → State → Type 0) → Eval A → Type 0
Keeps R m = (s : State) → R s (state_after (m s))

-- the relation holds of a state and itself, and over two runs where it holds over each
pub record IsKept (R : State → State → Type 0) : Type 0 where
  pub same : (s : State) → R s s
  pub both : (s t u : State) → R s t → R t u → R s u

-- a write that evaluations make: an object of whose name none is held, or a note
abbrev pub IsMade : Store → Write → Type 0
IsMade store (Object name bytes) = held store.objects name ≡ None
IsMade store (Note name bytes) = Unit {0}

-- what follows the outputs of the innermost thunk
abbrev pub following : (ℕ → Job → Option Outcome) → ℕ → Frame → List Frame → List ObjectName → Eval (List ObjectName)
following answer budget inner outer outputs = do
  output ← need (slice_get outputs inner.index) (Refused (NoOutput inner.name inner.index))
  value ← passed answer budget (value_of answer budget) output.kind output
  resume answer budget outer (inner.outer.done ++ value ∷ []) inner.outer.rest.items

module _ (R : State → State → Type 0) (kept : IsKept R) where
  -- what follows an end
  pub keeps-go_on : {A B : Type 0} (s : State) (e : Ended A) (f : A → Eval B) → R s (state_after e) → ((x : A) → Keeps R (f x)) → R s (state_after (go_on e f))
  keeps-go_on s (Got x t) f first then = kept.both s t (state_after (f x t)) first (then x t)
  keeps-go_on s (Stopped why t) f first then = first

  -- one after another
  pub keeps-then : {A B : Type 0} (m : Eval A) (f : A → Eval B) → Keeps R m → ((x : A) → Keeps R (f x)) → Keeps R (m >>= f)
  keeps-then m f first then s = keeps-go_on s (m s) f (first s) then

  pub keeps-check : (test : Bool) (why : Stop) → Keeps R (check test why)
  keeps-check true why s = kept.same s
  keeps-check false why s = kept.same s

  pub keeps-need : {A : Type 0} (found : Option A) (why : Stop) → Keeps R (need found why)
  keeps-need (Some x) why s = kept.same s
  keeps-need None why s = kept.same s

  pub keeps-each : {A B : Type 0} (f : A → Eval B) (xs : List A) → ((x : A) → Keeps R (f x)) → Keeps R (each f xs)
  keeps-each f [] all = kept.same
  keeps-each f (x ∷ xs) all =
      keeps-then (f x) (λ y. each f xs >>= λ ys. give (y ∷ ys)) (all x)
      (λ y. keeps-then (each f xs) (λ ys. give (y ∷ ys)) (keeps-each f xs all) (λ ys s. kept.same s))

  pub keeps-object : (name : ObjectName) → Keeps R (object name)
  keeps-object name s = keeps-need (held s.store.objects name) (Refused (Missing name)) s

  pub keeps-held_value : (name : ObjectName) → Keeps R (held_value name)
  keeps-held_value name = keeps-then (object name) (λ _. give name) (keeps-object name) (λ _ s. kept.same s)

  pub keeps-thunk_at : (name : ObjectName) → Keeps R (thunk_at name)
  keeps-thunk_at name =
      keeps-then (object name) (λ bytes. need (thunk_of bytes) (Refused (BadThunk name))) (keeps-object name)
      (λ bytes. keeps-need (thunk_of bytes) (Refused (BadThunk name)))

  keeps-input_object : (input : List ℕ × Ref) → Keeps R (input_object input)
  keeps-input_object input =
      keeps-then (object (ref_name input.1)) (λ bytes. give (input.0, bytes)) (keeps-object (ref_name input.1)) (λ bytes s. kept.same s)

  pub keeps-job_of : (t : Parts) → Keeps R (job_of t)
  keeps-job_of t s =
      keeps-go_on s (object (ref_name t.function) s) _ (keeps-object (ref_name t.function) s)
      (λ function u. keeps-go_on u (each input_object t.inputs u) _ (keeps-each input_object t.inputs keeps-input_object u)
      (λ inputs v. kept.same v))

  module _ (budget : ℕ) (steps : (s : State) → s.steps < budget → R s (state_after (step s))) where
    keeps-checked_step : (why : Stop) (s : State) (test : Bool) → nat_lt s.steps budget ≡ test → R s (state_after (go_on (check test why s) (λ _. step)))
    keeps-checked_step why s true is = steps s (ltb-true s.steps budget is)
    keeps-checked_step why s false is = kept.same s

    pub keeps-count : (name : ObjectName) → Keeps R (count_step budget name)
    keeps-count name s = keeps-checked_step (Refused (Spent name budget)) s (nat_lt s.steps budget) refl

    pub keeps-entered : (name : ObjectName) (index : ℕ) → Keeps R (entered budget name index)
    keeps-entered name index s =
        keeps-go_on s (thunk_at name s) _ (keeps-thunk_at name s)
        (λ t u. keeps-go_on u (check (nat_lt index (length t.outputs)) (Refused (NoOutput name index)) u) _
        (keeps-check (nat_lt index (length t.outputs)) (Refused (NoOutput name index)) u)
        (λ _ v. keeps-go_on v (count_step budget name v) (λ _. give t) (keeps-count name v) (λ _ w. kept.same w)))

  module _ (writes : (write : Write) (s : State) → IsMade s.store write → R s (state_after (make_write write s))) where
    keeps-storing : (bytes : List ℕ) (s : State) (found : Option (List ℕ)) → held s.store.objects (name_of bytes) ≡ found →
        R s (state_after (go_on (each make_write (cond (is_some found) [] (own_write bytes ∷ [])) s) (λ _. give (name_of bytes))))
    keeps-storing bytes s None is = writes (own_write bytes) s is
    keeps-storing bytes s (Some found) is = kept.same s

    keeps-unless_clash : (bytes : List ℕ) (s : State) (other : Option (List ℕ)) →
        R s (state_after (go_on (no_clash bytes other s) (λ _. each make_write (storing s.store bytes) >>= λ _. give (name_of bytes))))
    keeps-unless_clash bytes s None = keeps-storing bytes s (held s.store.objects (name_of bytes)) refl
    keeps-unless_clash bytes s (Some other) = kept.same s

    pub keeps-store_one : (bytes : List ℕ) → Keeps R (store_one bytes)
    keeps-store_one bytes s = keeps-unless_clash bytes s (other_held s.store bytes)

    pub keeps-outputs_by : (name : ObjectName) (outcome : Outcome) → Keeps R (outputs_by name outcome)
    keeps-outputs_by name (Done outputs) = keeps-each store_one outputs keeps-store_one
    keeps-outputs_by name (Failed status) = kept.same

    pub keeps-finished : (name : ObjectName) (t : Parts) (outcome : Outcome) → Keeps R (finished name t outcome)
    keeps-finished name t outcome s =
        keeps-go_on s (outputs_by name outcome s) _ (keeps-outputs_by name outcome s)
        (λ outputs u. keeps-go_on u (make_write (note_write (name_of (text_of t)) outputs) u) (λ _. give outputs)
        (writes (note_write (name_of (text_of t)) outputs) u tt) (λ _ v. kept.same v))

    module _ (marks : (name : ObjectName) (outputs : List ObjectName) (s : State) → R s (state_after (mark name outputs s))) (answer : ℕ → Job → Option Outcome) (asks : (text : List ℕ) (job : Job) → Keeps R (ask answer text job)) where
      keeps-outputs_of : (name : ObjectName) (t : Parts) (hit : Option (List ObjectName)) → Keeps R (outputs_of answer name t hit)
      keeps-outputs_of name t (Some outputs) s = kept.same s
      keeps-outputs_of name t None s =
          keeps-go_on s (job_of t s) _ (keeps-job_of t s)
          (λ job u. keeps-go_on u (ask answer (text_of t) job u) (λ outcome. finished name t outcome) (asks (text_of t) job u)
          (λ outcome. keeps-finished name t outcome))

      pub keeps-reduce : (name : ObjectName) (t : Parts) → Keeps R (reduce answer name t)
      unfolding reduce
      keeps-reduce name t s =
          keeps-go_on s (check (nat_le (resolved_size t) max_job) (Refused (TooBig name (resolved_size t))) s) _
          (keeps-check (nat_le (resolved_size t) max_job) (Refused (TooBig name (resolved_size t))) s)
          (λ _ u. keeps-go_on u (outputs_of answer name t (hit_of u.store (name_of (text_of t)) (length t.outputs)) u) _
          (keeps-outputs_of name t (hit_of u.store (name_of (text_of t)) (length t.outputs)) u)
          (λ outputs v. keeps-go_on v (mark name outputs v) (λ _. give outputs) (marks name outputs v) (λ _ w. kept.same w)))

      module _ (budget : ℕ) (steps : (s : State) → s.steps < budget → R s (state_after (step s))) where
        module _ (deeper : Ref → Eval ObjectName) (deep : (r : Ref) → Keeps R (deeper r)) where
          keeps-outputs_at : (name : ObjectName) (index : ℕ) (known : Option (List ObjectName)) → Keeps R (outputs_at answer budget deeper name index known)
          keeps-outputs_at name index (Some outputs) s = kept.same s
          keeps-outputs_at name index None s =
              keeps-go_on s (entered budget name index s) _ (keeps-entered budget steps name index s)
              (λ t u. keeps-go_on u (each deeper (refs_of t) u) (λ values. reduce answer name (resolved_by t values))
              (keeps-each deeper (refs_of t) deep u) (λ values. keeps-reduce name (resolved_by t values)))

          pub keeps-output_of : (name : ObjectName) (index : ℕ) → Keeps R (output_of answer budget deeper name index)
          keeps-output_of name index s =
              keeps-go_on s (outputs_at answer budget deeper name index (s.reduced name) s) (λ outputs. need (slice_get outputs index) (Refused (NoOutput name index)))
              (keeps-outputs_at name index (s.reduced name) s) (λ outputs. keeps-need (slice_get outputs index) (Refused (NoOutput name index)))

          pub keeps-passed : (kind : Kind) (output : ObjectName) → Keeps R (passed answer budget deeper kind output)
          keeps-passed kinds.Value output s = kept.same s
          keeps-passed kinds.Thunk output s =
              keeps-go_on s (count_step budget output s) (λ _. deeper (Out output 0)) (keeps-count budget steps output s) (λ _. deep (Out output 0))

          pub keeps-value_by : (r : Ref) → Keeps R (value_by answer budget deeper r)
          keeps-value_by (Value name) s = keeps-held_value name s
          keeps-value_by (Out name index) s =
              keeps-go_on s (output_of answer budget deeper name index s) (λ output. passed answer budget deeper output.kind output)
              (keeps-output_of name index s) (λ output. keeps-passed output.kind output)

        keeps-value_within : (left : ℕ) (r : Ref) → Keeps R (value_within answer budget left r)
        unfolding value_within
        keeps-value_within zero = keeps-value_by (beyond answer budget) (λ r s. kept.same s)
        keeps-value_within (suc left) = keeps-value_by (value_within answer budget left) (keeps-value_within left)

        pub keeps-value_of : (r : Ref) → Keeps R (value_of answer budget r)
        unfolding value_of
        keeps-value_of = keeps-value_within budget

        pub keeps-values_of : (refs : List Ref) → Keeps R (values_of answer budget refs)
        keeps-values_of refs = keeps-each (value_of answer budget) refs keeps-value_of

        pub keeps-resume : (frames : List Frame) (done : List ObjectName) (rest : List Ref) → Keeps R (resume answer budget frames done rest)
        unfolding resume
        keeps-resume [] done rest s =
            keeps-go_on s (values_of answer budget rest s) (λ values. give (done ++ values)) (keeps-values_of rest s) (λ values u. kept.same u)
        keeps-resume (inner ∷ outer) done rest s =
            keeps-go_on s (values_of answer budget rest s) _ (keeps-values_of rest s)
            (λ values t. keeps-go_on t (reduce answer inner.name (resolved_by inner.thunk (done ++ values)) t) (following answer budget inner outer)
            (keeps-reduce inner.name (resolved_by inner.thunk (done ++ values)) t)
            (λ outputs u. keeps-go_on u (need (slice_get outputs inner.index) (Refused (NoOutput inner.name inner.index)) u) _
            (keeps-need (slice_get outputs inner.index) (Refused (NoOutput inner.name inner.index)) u)
            (λ output v. keeps-go_on v (passed answer budget (value_of answer budget) output.kind output v) _
            (keeps-passed (value_of answer budget) keeps-value_of output.kind output v)
            (λ value. keeps-resume outer (inner.outer.done ++ value ∷ []) inner.outer.rest.items))))

        -- what follows the outputs of the innermost thunk
        pub keeps-following : (inner : Frame) (outer : List Frame) (outputs : List ObjectName) → Keeps R (following answer budget inner outer outputs)
        keeps-following inner outer outputs u =
            keeps-go_on u (need (slice_get outputs inner.index) (Refused (NoOutput inner.name inner.index)) u) _
            (keeps-need (slice_get outputs inner.index) (Refused (NoOutput inner.name inner.index)) u)
            (λ output v. keeps-go_on v (passed answer budget (value_of answer budget) output.kind output v) _
            (keeps-passed (value_of answer budget) keeps-value_of output.kind output v)
            (λ value. keeps-resume outer (inner.outer.done ++ value ∷ []) inner.outer.rest.items))
