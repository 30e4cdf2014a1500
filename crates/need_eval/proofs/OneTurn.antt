-- The turns of an evaluation that stands somewhere inside: what it comes to by one reference more, by one thunk entered, and by
-- one thunk left.
use Rattle.std.proofs.Common.{◌≡◌, ℕ, List, [], ◌∷◌, ◌++◌, length, Bool, true, false, Option, Some, None, refl, sym, ap, subst, ◌∙◌, append_assoc, append-nil}
use Rattle.std.specs.Prelude.{slice_get, nat_le, ◌≤◌, ◌<◌, if◌then◌else◌}
use Rattle.std.proofs.lemmas.Bool.{le-leb, lt-leb}
use Rattle.object_name.specs.declared.kind.Kind.{Kind}
use Rattle.object_name.specs.declared.kind.Kind.TheVariants as kinds
use Rattle.object_name.specs.Name.{ObjectName, name_of}
use Rattle.thunk_codec.specs.declared.reference.Ref.{Ref}
use Rattle.thunk_codec.specs.declared.reference.Ref.TheVariants.{Value, Out}
use Rattle.thunk_codec.specs.declared.job.Job.{Job}
use Rattle.thunk_codec.specs.declared.job.Outcome.{Outcome}
use Rattle.thunk_codec.specs.Thunk.{Parts, text_of}
use Rattle.thunk_codec.specs.Resolved.{refs_of, resolved_by}
use Rattle.thunk_codec.specs.Job.{resolved_size, max_job}
use Rattle.blob_store.specs.Keeping.{Kept}
use Rattle.reduction_cache.specs.Hit.{hit_of}
use Rattle.need_eval.specs.declared.fault.Refusal.TheVariants.{NoOutput, TooBig}
use Rattle.need_eval.specs.declared.fault.EvalFault.{EvalFault}
use Rattle.need_eval.specs.declared.frame.Frame.{Frame}
use Rattle.need_eval.specs.Eval.{State, Refused, Stands, Ended, Got, Stopped, Eval, go_on, ◌>>=◌, give, check, need, note_asked, mark}
use Rattle.need_eval.specs.Evaluation.{object, job_of, finished, ask, outputs_of, reduce, count_step, entered, outputs_at, passed, value_of, values_of}
use Rattle.need_eval.specs.Machine.{resume}
use Rattle.need_eval.specs.WritePrefix.{state_after}
use Rattle.need_eval.specs.StepContracts.{StopsReading}
use Rattle.object_name.proofs.PublicLaws.{name_cmp-same}
use Rattle.need_eval.proofs.ValuesAreByNeed.{value_of-is}
use Rattle.need_eval.proofs.ReadingStops.{StopsReading-go_on}

-- one output of some
abbrev pub pick : ObjectName → ℕ → List ObjectName → Eval ObjectName
pick name index outputs = need (slice_get outputs index) (Refused (NoOutput name index))

-- a thunk is reduced, and these are its outputs
abbrev pub marked : ObjectName → List ObjectName → State → State
marked name outputs s = state_after (mark name outputs s)

-- the outcome of a job was asked for
abbrev pub asked_for : Job → State → State
asked_for job s = record s { asked = s.asked ++ job ∷ [] }

-- an evaluation stops so where one that ends as it does stops so
StopsReading-of : {A : Type 0} (e d : Ended A) (at : Kept) (fault : EvalFault) → e ≡ d → StopsReading d at fault → StopsReading e at fault
StopsReading-of e d at fault is h = subst (λ e. StopsReading e at fault) (sym is) h

-- what follows what follows
then-then : {A B C : Type 0} (e : Ended A) (f : A → Eval B) (g : B → Eval C) → go_on (go_on e f) g ≡ go_on e (λ x. f x >>= g)
then-then (Got x s) f g = refl
then-then (Stopped why s) f g = refl

-- the same with one more
then-then-then : {A B C D : Type 0} (e : Ended A) (f : A → Eval B) (g : B → Eval C) (h : C → Eval D) → go_on (go_on (go_on e f) g) h ≡ go_on e (λ x. f x >>= λ y. g y >>= h)
then-then-then (Got x s) f g h = then-then (f x s) g h
then-then-then (Stopped why s) f g h = refl

-- and with two
then-four : {A B C D E : Type 0} (e : Ended A) (f : A → Eval B) (g : B → Eval C) (h : C → Eval D) (k : D → Eval E) → go_on (go_on (go_on (go_on e f) g) h) k ≡ go_on e (λ x. f x >>= λ y. g y >>= λ z. h z >>= k)
then-four (Got x s) f g h k = then-then-then (f x s) g h k
then-four (Stopped why s) f g h k = refl

-- some are gathered: those that are there, the next, and those after it
gather-one : {A B : Type 0} (done : List A) (y : A) (e : Ended (List A)) (k : List A → Eval B) → go_on (go_on e (λ ys. give (y ∷ ys))) (λ ys. k (done ++ ys)) ≡ go_on e (λ ys. k ((done ++ y ∷ []) ++ ys))
gather-one done y (Got ys s) k = ap (λ all. k all s) (sym (append_assoc done (y ∷ []) ys))
gather-one done y (Stopped why s) k = refl

gather-next : {A B : Type 0} (done : List A) (e : Ended A) (m : Eval (List A)) (k : List A → Eval B) → go_on (go_on e (λ y. m >>= λ ys. give (y ∷ ys))) (λ ys. k (done ++ ys)) ≡ go_on e (λ y. m >>= λ ys. k ((done ++ y ∷ []) ++ ys))
gather-next done (Got y s) m k = gather-one done y (m s) k
gather-next done (Stopped why s) m k = refl

module _ (answer : ℕ → Job → Option Outcome) (budget : ℕ) where
  -- what follows when the innermost thunk has its outputs
  abbrev pub after_leaving : Frame → List Frame → List ObjectName → Eval (List ObjectName)
  after_leaving inner outer outputs = do
    output ← pick inner.name inner.index outputs
    value ← passed answer budget (value_of answer budget) output.kind output
    resume answer budget outer (inner.outer.done ++ value ∷ []) inner.outer.rest.items

  -- what follows when all values are gathered
  abbrev when_gathered : List Frame → List ObjectName → Eval (List ObjectName)
  when_gathered [] values = give values
  when_gathered (inner ∷ outer) values = reduce answer inner.name (resolved_by inner.thunk values) >>= after_leaving inner outer

  resume-is : (frames : List Frame) (done : List ObjectName) (rest : List Ref) (s : State) → resume answer budget frames done rest s ≡ go_on (values_of answer budget rest s) (λ values. when_gathered frames (done ++ values))
  unfolding resume
  resume-is [] done rest s = refl
  resume-is (inner ∷ outer) done rest s = refl

  -- what is left after the reference that is next
  pub resume-next : (frames : List Frame) (done : List ObjectName) (r : Ref) (rest : List Ref) (s : State) → resume answer budget frames done (r ∷ rest) s ≡ go_on (value_of answer budget r s) (λ value. resume answer budget frames (done ++ value ∷ []) rest)
  resume-next frames done r rest s =
      resume-is frames done (r ∷ rest) s
      ∙ gather-next done (value_of answer budget r s) (values_of answer budget rest) (when_gathered frames)
      ∙ ap (λ (after : ObjectName → Eval (List ObjectName)). go_on (value_of answer budget r s) after) (λ i value t. sym (resume-is frames (done ++ value ∷ []) rest t) i)

  -- the next stops
  stops-next : (frames : List Frame) (done : List ObjectName) (r : Ref) (rest : List Ref) (s : State) (at : Kept) (fault : EvalFault) → StopsReading (value_of answer budget r s) at fault → StopsReading (resume answer budget frames done (r ∷ rest) s) at fault
  stops-next frames done r rest s at fault h =
      StopsReading-of (resume answer budget frames done (r ∷ rest) s) (go_on (value_of answer budget r s) (λ value. resume answer budget frames (done ++ value ∷ []) rest)) at fault (resume-next frames done r rest s)
      (StopsReading-go_on (λ value. resume answer budget frames (done ++ value ∷ []) rest) (value_of answer budget r s) at fault h)

  -- the next gives a value
  gives-next : (frames : List Frame) (done : List ObjectName) (r : Ref) (rest : List Ref) (value : ObjectName) (s t : State) → value_of answer budget r s ≡ Got value t → resume answer budget frames done (r ∷ rest) s ≡ resume answer budget frames (done ++ value ∷ []) rest t
  gives-next frames done r rest value s t is =
      resume-next frames done r rest s ∙ ap (λ e. go_on e (λ value. resume answer budget frames (done ++ value ∷ []) rest)) is

  -- the next has the value that another has
  same-next : (frames : List Frame) (done : List ObjectName) (r q : Ref) (rest : List Ref) (s t : State) → value_of answer budget r s ≡ value_of answer budget q t → resume answer budget frames done (r ∷ rest) s ≡ resume answer budget frames done (q ∷ rest) t
  same-next frames done r q rest s t is =
      resume-next frames done r rest s
      ∙ ap (λ e. go_on e (λ value. resume answer budget frames (done ++ value ∷ []) rest)) is
      ∙ sym (resume-next frames done q rest t)

  -- all is there
  pub turn-end : (done : List ObjectName) (s : State) → resume answer budget [] done [] s ≡ Got done s
  turn-end done s = resume-is [] done [] s ∙ ap (λ values. Got values s) (append-nil done)

  -- a value that is held
  pub turn-value : (frames : List Frame) (done : List ObjectName) (name : ObjectName) (rest : List Ref) (bytes : List ℕ) (s : State) → object name s ≡ Got bytes s → resume answer budget frames done (Value name ∷ rest) s ≡ resume answer budget frames (done ++ name ∷ []) rest s
  turn-value frames done name rest bytes s held =
      gives-next frames done (Value name) rest name s s (value_of-is answer budget (Value name) s ∙ ap (λ e. go_on e (λ _. give name)) held)

  -- a value that can't be read
  pub turn-value-stops : (frames : List Frame) (done : List ObjectName) (name : ObjectName) (rest : List Ref) (s : State) (at : Kept) (fault : EvalFault) → StopsReading (object name s) at fault → StopsReading (resume answer budget frames done (Value name ∷ rest) s) at fault
  turn-value-stops frames done name rest s at fault h =
      stops-next frames done (Value name) rest s at fault
      (StopsReading-of (value_of answer budget (Value name) s) (go_on (object name s) (λ _. give name)) at fault (value_of-is answer budget (Value name) s)
      (StopsReading-go_on (λ _. give name) (object name s) at fault h))

  -- the value of an output
  abbrev pass : ObjectName → Eval ObjectName
  pass output = passed answer budget (value_of answer budget) output.kind output

  value_of-known : (name : ObjectName) (index : ℕ) (outputs : List ObjectName) (s : State) → s.reduced name ≡ Some outputs → value_of answer budget (Out name index) s ≡ go_on (pick name index outputs s) pass
  value_of-known name index outputs s known =
      value_of-is answer budget (Out name index) s
      ∙ ap (λ found. go_on (go_on (outputs_at answer budget (value_of answer budget) name index found s) (pick name index)) pass) known

  value_of-found : (name : ObjectName) (index : ℕ) (outputs : List ObjectName) (output : ObjectName) (kind : Kind) (s : State) → s.reduced name ≡ Some outputs → pick name index outputs s ≡ Got output s → output.kind ≡ kind → value_of answer budget (Out name index) s ≡ passed answer budget (value_of answer budget) kind output s
  value_of-found name index outputs output kind s known found is =
      value_of-known name index outputs s known ∙ ap (λ e. go_on e pass) found ∙ ap (λ kind. passed answer budget (value_of answer budget) kind output s) is

  -- what follows when a thunk was entered
  abbrev after_entering : ObjectName → Parts → Eval (List ObjectName)
  after_entering name t = values_of answer budget (refs_of t) >>= λ values. reduce answer name (resolved_by t values)

  value_of-new : (name : ObjectName) (index : ℕ) (s : State) → s.reduced name ≡ None → value_of answer budget (Out name index) s ≡ go_on (go_on (go_on (entered budget name index s) (after_entering name)) (pick name index)) pass
  value_of-new name index s new =
      value_of-is answer budget (Out name index) s
      ∙ ap (λ found. go_on (go_on (outputs_at answer budget (value_of answer budget) name index found s) (pick name index)) pass) new

  -- an output of a thunk that was reduced, which is a value
  pub turn-known-value : (frames : List Frame) (done : List ObjectName) (name : ObjectName) (index : ℕ) (rest : List Ref) (outputs : List ObjectName) (output : ObjectName) (s : State) → s.reduced name ≡ Some outputs → pick name index outputs s ≡ Got output s → output.kind ≡ kinds.Value → resume answer budget frames done (Out name index ∷ rest) s ≡ resume answer budget frames (done ++ output ∷ []) rest s
  turn-known-value frames done name index rest outputs output s known found kind =
      gives-next frames done (Out name index) rest output s s (value_of-found name index outputs output kinds.Value s known found kind)

  -- one which is a thunk: its first output is wanted next
  pub turn-known-thunk : (frames : List Frame) (done : List ObjectName) (name : ObjectName) (index : ℕ) (rest : List Ref) (outputs : List ObjectName) (output : ObjectName) (s t : State) → s.reduced name ≡ Some outputs → pick name index outputs s ≡ Got output s → output.kind ≡ kinds.Thunk → count_step budget output s ≡ Got tt t → resume answer budget frames done (Out name index ∷ rest) s ≡ resume answer budget frames done (Out output 0 ∷ rest) t
  turn-known-thunk frames done name index rest outputs output s t known found kind counted =
      same-next frames done (Out name index) (Out output 0) rest s t
      (value_of-found name index outputs output kinds.Thunk s known found kind ∙ ap (λ e. go_on e (λ _. value_of answer budget (Out output 0))) counted)

  -- an output that isn't there
  pub turn-known-stops : (frames : List Frame) (done : List ObjectName) (name : ObjectName) (index : ℕ) (rest : List Ref) (outputs : List ObjectName) (s : State) (at : Kept) (fault : EvalFault) → s.reduced name ≡ Some outputs → StopsReading (pick name index outputs s) at fault → StopsReading (resume answer budget frames done (Out name index ∷ rest) s) at fault
  turn-known-stops frames done name index rest outputs s at fault known h =
      stops-next frames done (Out name index) rest s at fault
      (StopsReading-of (value_of answer budget (Out name index) s) (go_on (pick name index outputs s) pass) at fault (value_of-known name index outputs s known)
      (StopsReading-go_on pass (pick name index outputs s) at fault h))

  -- one which is a thunk, and no step is left
  pub turn-known-spent : (frames : List Frame) (done : List ObjectName) (name : ObjectName) (index : ℕ) (rest : List Ref) (outputs : List ObjectName) (output : ObjectName) (s : State) (at : Kept) (fault : EvalFault) → s.reduced name ≡ Some outputs → pick name index outputs s ≡ Got output s → output.kind ≡ kinds.Thunk → StopsReading (count_step budget output s) at fault → StopsReading (resume answer budget frames done (Out name index ∷ rest) s) at fault
  turn-known-spent frames done name index rest outputs output s at fault known found kind h =
      stops-next frames done (Out name index) rest s at fault
      (StopsReading-of (value_of answer budget (Out name index) s) (go_on (count_step budget output s) (λ _. value_of answer budget (Out output 0))) at fault (value_of-found name index outputs output kinds.Thunk s known found kind)
      (StopsReading-go_on (λ _. value_of answer budget (Out output 0)) (count_step budget output s) at fault h))

  -- a thunk that wasn't reduced is entered
  pub turn-enter : (frames : List Frame) (done : List ObjectName) (name : ObjectName) (index : ℕ) (rest : List Ref) (s : State) (t : Parts) (u : State) (frame : Frame) → s.reduced name ≡ None → entered budget name index s ≡ Got t u → frame.name ≡ name → frame.index ≡ index → frame.thunk ≡ t → frame.outer.done ≡ done → frame.outer.rest.items ≡ rest → resume answer budget frames done (Out name index ∷ rest) s ≡ resume answer budget (frame ∷ frames) [] (refs_of t) u
  turn-enter frames done name index rest s t u frame new enters names indices thunks dones rests =
      resume-next frames done (Out name index) rest s
      ∙ ap (λ e. go_on e (λ value. resume answer budget frames (done ++ value ∷ []) rest)) (value_of-new name index s new)
      ∙ ap (λ e. go_on (go_on (go_on (go_on e (after_entering name)) (pick name index)) pass) (λ value. resume answer budget frames (done ++ value ∷ []) rest)) enters
      ∙ then-four (values_of answer budget (refs_of t) u) (λ values. reduce answer name (resolved_by t values)) (pick name index) pass (λ value. resume answer budget frames (done ++ value ∷ []) rest)
      ∙ (λ i. go_on (values_of answer budget (refs_of t) u) (λ values. reduce answer (sym names i) (resolved_by (sym thunks i) values) >>= λ outputs. pick (sym names i) (sym indices i) outputs >>= λ output. pass output >>= λ value. resume answer budget frames (sym dones i ++ value ∷ []) (sym rests i)))
      ∙ sym (resume-is (frame ∷ frames) [] (refs_of t) u)

  -- one that can't be entered
  pub turn-enter-stops : (frames : List Frame) (done : List ObjectName) (name : ObjectName) (index : ℕ) (rest : List Ref) (s : State) (at : Kept) (fault : EvalFault) → s.reduced name ≡ None → StopsReading (entered budget name index s) at fault → StopsReading (resume answer budget frames done (Out name index ∷ rest) s) at fault
  turn-enter-stops frames done name index rest s at fault new h =
      stops-next frames done (Out name index) rest s at fault
      (StopsReading-of (value_of answer budget (Out name index) s) (go_on (go_on (go_on (entered budget name index s) (after_entering name)) (pick name index)) pass) at fault (value_of-new name index s new)
      (StopsReading-go_on pass (go_on (go_on (entered budget name index s) (after_entering name)) (pick name index)) at fault
      (StopsReading-go_on (pick name index) (go_on (entered budget name index s) (after_entering name)) at fault
      (StopsReading-go_on (after_entering name) (entered budget name index s) at fault h))))

  -- the innermost thunk is left
  pub turn-leave-ends : (inner : Frame) (outer : List Frame) (done : List ObjectName) (s : State) → resume answer budget (inner ∷ outer) done [] s ≡ go_on (reduce answer inner.name (resolved_by inner.thunk done) s) (after_leaving inner outer)
  turn-leave-ends inner outer done s =
      resume-is (inner ∷ outer) done [] s
      ∙ ap (λ values. go_on (reduce answer inner.name (resolved_by inner.thunk values) s) (after_leaving inner outer)) (append-nil done)

  -- its outputs are there: the one that is wanted is next
  pub turn-leave : (inner : Frame) (outer : List Frame) (done : List ObjectName) (outputs : List ObjectName) (s t : State) → reduce answer inner.name (resolved_by inner.thunk done) s ≡ Got outputs t → t.reduced inner.name ≡ Some outputs → resume answer budget (inner ∷ outer) done [] s ≡ resume answer budget outer inner.outer.done (Out inner.name inner.index ∷ inner.outer.rest.items) t
  turn-leave inner outer done outputs s t reduced known =
      turn-leave-ends inner outer done s
      ∙ ap (λ e. go_on e (after_leaving inner outer)) reduced
      ∙ sym (then-then (pick inner.name inner.index outputs t) pass (λ value. resume answer budget outer (inner.outer.done ++ value ∷ []) inner.outer.rest.items))
      ∙ ap (λ e. go_on e (λ value. resume answer budget outer (inner.outer.done ++ value ∷ []) inner.outer.rest.items)) (sym (value_of-known inner.name inner.index outputs t known))
      ∙ sym (resume-next outer inner.outer.done (Out inner.name inner.index) inner.outer.rest.items t)

  -- it has no outputs
  pub turn-leave-stops : (inner : Frame) (outer : List Frame) (done : List ObjectName) (s : State) (at : Kept) (fault : EvalFault) → StopsReading (reduce answer inner.name (resolved_by inner.thunk done) s) at fault → StopsReading (resume answer budget (inner ∷ outer) done [] s) at fault
  turn-leave-stops inner outer done s at fault h =
      StopsReading-of (resume answer budget (inner ∷ outer) done [] s) (go_on (reduce answer inner.name (resolved_by inner.thunk done) s) (after_leaving inner outer)) at fault (turn-leave-ends inner outer done s)
      (StopsReading-go_on (after_leaving inner outer) (reduce answer inner.name (resolved_by inner.thunk done) s) at fault h)

module _ (answer : ℕ → Job → Option Outcome) where
  -- what follows when the outputs are there
  abbrev keep_marked : ObjectName → List ObjectName → Eval (List ObjectName)
  keep_marked name outputs = mark name outputs >>= λ _. give outputs

  -- what follows when the job is known to be small
  abbrev by_hit : ObjectName → Parts → Option (List ObjectName) → Eval (List ObjectName)
  by_hit name t hit = outputs_of answer name t hit >>= keep_marked name

  reduce-by : (name : ObjectName) (t : Parts) (test : Bool) (s : State) → nat_le (resolved_size t) max_job ≡ test → reduce answer name t s ≡ go_on (check test (Refused (TooBig name (resolved_size t))) s) (λ _ s. by_hit name t (hit_of s.store (name_of (text_of t)) (length t.outputs)) s)
  unfolding reduce
  reduce-by name t test s is = ap (λ test. go_on (check test (Refused (TooBig name (resolved_size t))) s) (λ _ s. by_hit name t (hit_of s.store (name_of (text_of t)) (length t.outputs)) s)) is

  reduce-small : (name : ObjectName) (t : Parts) (hit : Option (List ObjectName)) (s : State) → resolved_size t ≤ max_job → hit_of s.store (name_of (text_of t)) (length t.outputs) ≡ hit → reduce answer name t s ≡ by_hit name t hit s
  reduce-small name t hit s small is =
      reduce-by name t true s (le-leb (resolved_size t) max_job small) ∙ ap (λ hit. by_hit name t hit s) is

  -- what follows when the job is there
  abbrev with_job : ObjectName → Parts → Job → Eval (List ObjectName)
  with_job name t job = ask answer (text_of t) job >>= λ outcome. finished name t outcome

  -- what follows when there is an outcome of the job or none
  abbrev with_outcome : ObjectName → Parts → Job → State → Option Outcome → Ended (List ObjectName)
  with_outcome name t job s outcome = go_on (go_on (go_on (need outcome (Stands (text_of t) job) s) (λ outcome. note_asked job >>= λ _. give outcome)) (λ outcome. finished name t outcome)) (keep_marked name)

  reduce-built : (name : ObjectName) (t : Parts) (job : Job) (outcome : Option Outcome) (s : State) → resolved_size t ≤ max_job → hit_of s.store (name_of (text_of t)) (length t.outputs) ≡ None → job_of t s ≡ Got job s → answer (length s.asked) job ≡ outcome → reduce answer name t s ≡ with_outcome name t job s outcome
  reduce-built name t job outcome s small miss built answers =
      reduce-small name t None s small miss
      ∙ ap (λ e. go_on (go_on e (with_job name t)) (keep_marked name)) built
      ∙ ap (λ outcome. with_outcome name t job s outcome) answers

  -- the job of a resolved thunk is too big
  pub reduce-too-big : (name : ObjectName) (t : Parts) (s : State) → max_job < resolved_size t → reduce answer name t s ≡ Stopped (Refused (TooBig name (resolved_size t))) s
  reduce-too-big name t s big = reduce-by name t false s (lt-leb (resolved_size t) max_job big)

  -- the store has its outputs
  pub reduce-hit : (name : ObjectName) (t : Parts) (outputs : List ObjectName) (s : State) → resolved_size t ≤ max_job → hit_of s.store (name_of (text_of t)) (length t.outputs) ≡ Some outputs → reduce answer name t s ≡ Got outputs (marked name outputs s)
  reduce-hit name t outputs s small hit = reduce-small name t (Some outputs) s small hit

  -- its function gives them
  pub reduce-run : (name : ObjectName) (t : Parts) (job : Job) (outcome : Outcome) (s : State) → resolved_size t ≤ max_job → hit_of s.store (name_of (text_of t)) (length t.outputs) ≡ None → job_of t s ≡ Got job s → answer (length s.asked) job ≡ Some outcome → reduce answer name t s ≡ go_on (finished name t outcome (asked_for job s)) (λ outputs. mark name outputs >>= λ _. give outputs)
  reduce-run name t job outcome s small miss built answers = reduce-built name t job (Some outcome) s small miss built answers

  -- there is no outcome yet
  pub reduce-stands : (name : ObjectName) (t : Parts) (job : Job) (s : State) → resolved_size t ≤ max_job → hit_of s.store (name_of (text_of t)) (length t.outputs) ≡ None → job_of t s ≡ Got job s → answer (length s.asked) job ≡ None → reduce answer name t s ≡ Stopped (Stands (text_of t) job) s
  reduce-stands name t job s small miss built answers = reduce-built name t job None s small miss built answers

  -- what its job is made of can't be read
  pub reduce-job-stops : (name : ObjectName) (t : Parts) (s : State) (at : Kept) (fault : EvalFault) → resolved_size t ≤ max_job → hit_of s.store (name_of (text_of t)) (length t.outputs) ≡ None → StopsReading (job_of t s) at fault → StopsReading (reduce answer name t s) at fault
  reduce-job-stops name t s at fault small miss h =
      StopsReading-of (reduce answer name t s) (by_hit name t None s) at fault (reduce-small name t None s small miss)
      (StopsReading-go_on (keep_marked name) (go_on (job_of t s) (with_job name t)) at fault
      (StopsReading-go_on (with_job name t) (job_of t s) at fault h))

-- a thunk that is reduced is known
pub marked-reduced : (name : ObjectName) (outputs : List ObjectName) (s : State) → (marked name outputs s).reduced name ≡ Some outputs
marked-reduced name outputs s = ap (λ test. if test then Some outputs else s.reduced name) (name_cmp-same name)
