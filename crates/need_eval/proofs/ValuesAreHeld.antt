-- What an evaluation gives is held, and all that is held was held at the start or is an output of an answer: one induction over
-- evaluations, which carries what is given, and why a stop came.
use Rattle.std.proofs.Common.{◌≡◌, lit<, inl, inr, ℕ, zero, suc, Bool, true, false, cond, List, [], ◌∷◌, Option, Some, None, length, map, refl, sym, ap, subst, ◌∙◌}
use Rattle.std.specs.Prelude.{slice_get, nat_lt, nat_le, IsSome, ◌⊎◌}
use Rattle.std.specs.List.{AllByRecursion}
use Rattle.std.specs.Ordering.{eq_by_cmp}
use Rattle.std.proofs.lemmas.Option.{same_Some, none-some}
use Rattle.std.proofs.lemmas.Bool.{leb-false}
use Rattle.object_name.specs.declared.kind.Kind.{Kind}
use Rattle.object_name.specs.declared.kind.Kind.TheVariants as kinds
use Rattle.object_name.specs.Name.{ObjectName, IsName, name_of, name_cmp}
use Rattle.object_name.proofs.PublicLaws.{eq_by_cmp-name}
use Rattle.thunk_codec.specs.declared.reference.Ref.{Ref}
use Rattle.thunk_codec.specs.declared.reference.Ref.TheVariants.{Value, Out}
use Rattle.thunk_codec.specs.declared.job.Job.{Job}
use Rattle.thunk_codec.specs.declared.job.Outcome.{Outcome}
use Rattle.thunk_codec.specs.declared.job.Outcome.TheVariants.{Done, Failed}
use Rattle.thunk_codec.specs.Outcome.{Fits}
use Rattle.thunk_codec.specs.Reference.{IsRef}
use Rattle.thunk_codec.specs.Thunk.{Parts, IsThunk, text_of}
use Rattle.thunk_codec.specs.Reading.{thunk_of}
use Rattle.thunk_codec.specs.Resolved.{refs_of, resolved_by, AreNames, HaveValueKind}
use Rattle.thunk_codec.specs.Job.{job_size, resolved_size, max_job}
use Rattle.blob_store.specs.Store.{Contents, Store, held}
use Rattle.reduction_cache.specs.Hit.{hit_of}
use Rattle.need_eval.specs.declared.fault.Refusal.{Refusal}
use Rattle.need_eval.specs.declared.fault.Refusal.TheVariants.{Missing, BadThunk, NoOutput, Spent, TooBig, FunctionFailed}
use Rattle.need_eval.specs.Eval.{State, Stop, Refused, Clash, Stands, Ended, Got, Stopped, Eval, go_on, ◌>>=◌, give, check, need, each, step, note_asked, start}
use Rattle.need_eval.specs.Evaluation.{object, held_value, thunk_at, job_of, store_one, finished, ask, outputs_of, reduce, count_step, entered, outputs_at, output_of, passed, value_by, beyond, value_within, value_of, values_of}
use Rattle.need_eval.specs.WritePrefix.{state_after}
use Rattle.need_eval.specs.MetObjects.{AreHeld, IsHeld, OutputsAreHeld, HasBigJob, IsJobOutput, IsMet, ClashOfMet}
use Rattle.need_eval.specs.StopAndAgain.{resolved}
use Rattle.thunk_codec.proofs.PublicLaws.{thunk_of-text, resolved_is_thunk}
use Rattle.blob_store.proofs.PublicLaws.{held-put-own, held-put-other}
use Rattle.need_eval.proofs.JobsOfThunks.{held-named, job-length}
use Rattle.need_eval.proofs.OneTurn.{marked, asked_for}
use Rattle.need_eval.proofs.Places.{get-prefix, get-last, get-more, all-get, all-more, all-placed}
use Rattle.need_eval.proofs.HeldStays.{HoldsAll, is_some-from, some-holds, are-held}
use Rattle.need_eval.proofs.HitsAreHeld.{hit-held, hit-names}
use Rattle.need_eval.proofs.StoringCases.{StoreCase, Known, New, Other, store_case, with_object, with_object-holds}
use Rattle.need_eval.proofs.OwnNotesAreTrue.{are-names}
use Rattle.need_eval.proofs.JobsAreThere.{HeldJob, job-resolved, made-job, held-more}

-- two names are one, or they differ
same-name : (a b : ObjectName) → (a ≡ b) ⊎ (a ≡ b → ⊥)
same-name a b = by (eq_by_cmp name_cmp a b) refl
  where
    by : (test : Bool) → eq_by_cmp name_cmp a b ≡ test → (a ≡ b) ⊎ (a ≡ b → ⊥)
    by true is = inl ((eq_by_cmp-name a b).0 is)
    by false is = inr (λ e. cc (sym is ∙ (eq_by_cmp-name a b).1 e))

-- each answer fits its job
abbrev pub AllFit : (ℕ → Job → Option Outcome) → Type 0
AllFit answer = (place : ℕ) (job : Job) (outcome : Outcome) → answer place job ≡ Some outcome → Fits job outcome

-- nothing is asked of the answers
pub none_fit : (answer : ℕ → Job → Option Outcome) → ⊥ → AllFit answer
none_fit answer never = absurd never

module _ (answer : ℕ → Job → Option Outcome) (first : Store) (Fit : Type 0) (all_fit : Fit → AllFit answer) where
  abbrev pub Met : State → List ℕ → Type 0
  Met s bytes = IsMet answer first s.asked bytes

  -- the resolved thunk of a job keeps the rules, and its objects are held
  abbrev pub IsFair : Store → Job → Type 0
  IsFair store job = IsThunk (resolved job) × HeldJob store job

  pub record Good (s : State) : Type 0 where
    pub outputs : OutputsAreHeld s
    pub met : (bytes : List ℕ) → IsHeld s.store bytes → Met s bytes
    pub names : Fit → (name : ObjectName) (outputs : List ObjectName) → s.reduced name ≡ Some outputs → AreNames outputs
    pub jobs : Fit → (i : ℕ) (job : Job) → slice_get s.asked i ≡ Some job → IsFair s.store job

  pub record Later (s t : State) : Type 0 where
    pub holds : HoldsAll s.store t.store
    pub asks : (bytes : List ℕ) → IsJobOutput answer s.asked bytes → IsJobOutput answer t.asked bytes

  same : (s : State) → Later s s
  same s = record { holds = λ name bytes was. was; asks = λ bytes was. was }

  both : (s t u : State) → Later s t → Later t u → Later s u
  both s t u f g = record { holds = λ name bytes was. g.holds name bytes (f.holds name bytes was); asks = λ bytes was. g.asks bytes (f.asks bytes was) }

  -- what a stop shows
  abbrev pub RefusalShows : Refusal → State → Type 0
  RefusalShows (Missing name) s = held s.store.objects name ≡ None
  RefusalShows (BadThunk name) s = Unit {0}
  RefusalShows (NoOutput name index) s = Unit {0}
  RefusalShows (Spent name budget) s = Unit {0}
  RefusalShows (TooBig name size) s = HasBigJob name size s
  RefusalShows (FunctionFailed name status) s = Unit {0}

  abbrev pub StopShows : Stop → State → Type 0
  StopShows (Refused refusal) s = RefusalShows refusal s
  StopShows (Clash name found fresh) s = ClashOfMet answer first s.asked name found fresh
  StopShows (Stands text job) s = Unit {0}

  -- what an end is: the state is good, and this holds of what was given, or the stop shows what it is to show
  abbrev pub Ends : {A : Type 0} → (A → State → Type 0) → State → Ended A → Type 0
  Ends Q s (Got x t) = Later s t × Good t × Q x t
  Ends Q s (Stopped why t) = Good t × StopShows why t

  earlier : {A : Type 0} (Q : A → State → Type 0) (s t : State) (e : Ended A) → Later s t → Ends Q t e → Ends Q s e
  earlier Q s t (Got x u) later h = (both s t u later h.0, h.1, h.2)
  earlier Q s t (Stopped why u) later h = h

  weaken : {A : Type 0} (Q P : A → State → Type 0) (s : State) (e : Ended A) → ((y : A) (t : State) → Q y t → P y t) → Ends Q s e → Ends P s e
  weaken Q P s (Got y t) more h = (h.0, h.1, more y t h.2)
  weaken Q P s (Stopped why t) more h = h

  then : {A B : Type 0} (Q : A → State → Type 0) (P : B → State → Type 0) (s : State) (e : Ended A) (f : A → Eval B) → Ends Q s e →
      ((x : A) (t : State) → Later s t → Good t → Q x t → Ends P t (f x t)) → Ends P s (go_on e f)
  then Q P s (Got x t) f h next = earlier P s t (f x t) h.0 (next x t h.0 h.1 h.2)
  then Q P s (Stopped why t) f h next = h

  -- nothing is said of what is given
  abbrev pub Any : {A : Type 0} → A → State → Type 0
  Any x s = Unit {0}

  needed : {A : Type 0} (Q : A → State → Type 0) (found : Option A) (why : Stop) (s : State) → Good s → (found ≡ None → StopShows why s) → ((x : A) → found ≡ Some x → Q x s) → Ends Q s (need found why s)
  needed Q (Some x) why s good stops gives = (same s, good, gives x refl)
  needed Q None why s good stops gives = (good, stops refl)

  checked : (test : Bool) (why : Stop) (s : State) → Good s → (test ≡ false → StopShows why s) → Ends (λ _ _. test ≡ true) s (check test why s)
  checked true why s good stops = (same s, good, refl)
  checked false why s good stops = (good, stops refl)

  abbrev IsObject : ObjectName → List ℕ → State → Type 0
  IsObject name bytes s = held s.store.objects name ≡ Some bytes

  an-object : (name : ObjectName) (s : State) → Good s → Ends (IsObject name) s (object name s)
  an-object name s good = needed (IsObject name) (held s.store.objects name) (Refused (Missing name)) s good (λ none. none) (λ x is. is)

  -- the object of a name is held
  abbrev pub IsThere : ObjectName → State → Type 0
  IsThere name s = IsSome (held s.store.objects name)

  abbrev pub AreThere : List ObjectName → State → Type 0
  AreThere names s = AreHeld s.store names × (Fit → AreNames names)

  -- the value of a REF
  abbrev pub IsValueOf : Ref → ObjectName → State → Type 0
  IsValueOf r name s = IsSome (held s.store.objects name) × (Fit → IsRef r → IsName name × (name.kind ≡ kinds.Value))

  -- an output of a thunk
  abbrev pub IsOutputName : ObjectName → State → Type 0
  IsOutputName name s = IsSome (held s.store.objects name) × (Fit → IsName name)

  -- values in order
  abbrev pub AreValues : List Ref → List ObjectName → State → Type 0
  AreValues refs names s = AreHeld s.store names × (length names ≡ length refs) × (Fit → AllByRecursion IsRef refs → AreNames names × HaveValueKind names)

  a-value : (name : ObjectName) (s : State) → Good s → Ends (IsValueOf (Value name)) s (held_value name s)
  a-value name s good =
      then (IsObject name) (IsValueOf (Value name)) s (object name s) (λ _. give name) (an-object name s good)
      (λ bytes t later good is. (same t, good, (is_some-from (held t.store.objects name) bytes is, λ fit rules. rules)))

  -- the thunk that is held there
  abbrev pub IsThunkAt : ObjectName → Parts → State → Type 0
  IsThunkAt name t s = (bytes : List ℕ) × (held s.store.objects name ≡ Some bytes) × (thunk_of bytes ≡ Some t)

  a-thunk : (name : ObjectName) (s : State) → Good s → Ends (IsThunkAt name) s (thunk_at name s)
  a-thunk name s good =
      then (IsObject name) (IsThunkAt name) s (object name s) (λ bytes. need (thunk_of bytes) (Refused (BadThunk name))) (an-object name s good)
      (λ bytes u later good is. needed (IsThunkAt name) (thunk_of bytes) (Refused (BadThunk name)) u good (λ _. tt) (λ t read. (bytes, is, read)))

  pub counted : (budget : ℕ) (name : ObjectName) (s : State) → Good s → Ends Any s (count_step budget name s)
  counted budget name s good =
      then (λ _ _. nat_lt s.steps budget ≡ true) Any s (check (nat_lt s.steps budget) (Refused (Spent name budget)) s) (λ _. step) (checked (nat_lt s.steps budget) (Refused (Spent name budget)) s good (λ _. tt))
      (λ _ t later good _. (record { holds = λ name bytes was. was; asks = λ bytes was. was }, record { outputs = good.outputs; met = good.met; names = good.names; jobs = good.jobs }, tt))

  pub enters : (budget : ℕ) (name : ObjectName) (index : ℕ) (s : State) → Good s → Ends (IsThunkAt name) s (entered budget name index s)
  enters budget name index s good =
      then (IsThunkAt name) (IsThunkAt name) s (thunk_at name s) _ (a-thunk name s good)
      (λ t u later good is. then (λ _ _. nat_lt index (length t.outputs) ≡ true) (IsThunkAt name) u (check (nat_lt index (length t.outputs)) (Refused (NoOutput name index)) u) _
      (checked (nat_lt index (length t.outputs)) (Refused (NoOutput name index)) u good (λ _. tt))
      (λ _ v l good _. then Any (IsThunkAt name) v (count_step budget name v) (λ _. give t) (counted budget name v good)
      (λ _ w m good _. (same w, good, (is.0, m.holds name is.0 (l.holds name is.0 is.1), is.2)))))

  -- ---- the outputs

  -- the name of an object that is held
  abbrev IsStored : List ℕ → ObjectName → State → Type 0
  IsStored bytes name s = IsSome (held s.store.objects name) × (name ≡ name_of bytes)

  stored : (bytes : List ℕ) (s : State) → Good s → IsJobOutput answer s.asked bytes → Ends (IsStored bytes) s (store_one bytes s)
  stored bytes s good output = by (store_case bytes s)
    where
      new-good : held s.store.objects (name_of bytes) ≡ None → Good (with_object bytes s)
      new-good none = record {
        outputs = λ name outputs is. are-held s.store (with_object bytes s).store (with_object-holds bytes s none) outputs (good.outputs name outputs is);
        met = λ other is. met-by other is (same-name (name_of other) (name_of bytes));
        names = good.names;
        jobs = λ fit i job is. let fair = good.jobs fit i job is in (fair.0, held-more s.store (with_object bytes s).store (with_object-holds bytes s none) job fair.1);
      }
        where
          met-by : (other : List ℕ) → held (with_object bytes s).store.objects (name_of other) ≡ Some other → ((name_of other ≡ name_of bytes) ⊎ (name_of other ≡ name_of bytes → ⊥)) → Met s other
          met-by other is (inl e) =
              inr (subst (λ (b : List ℕ). IsJobOutput answer s.asked b) (same_Some bytes other (sym (held-put-own s.store.objects bytes) ∙ ap (held (with_object bytes s).store.objects) (sym e) ∙ is)) output)
          met-by other is (inr differ) = good.met other (sym (held-put-other s.store.objects (name_of bytes) bytes (name_of other) differ) ∙ is)

      by : StoreCase bytes s → Ends (IsStored bytes) s (store_one bytes s)
      by (Known is does) = subst (λ (e : Ended ObjectName). Ends (IsStored bytes) s e) (sym does) (same s, good, (is_some-from (held s.store.objects (name_of bytes)) bytes is, refl))
      by (New none does) = subst (λ (e : Ended ObjectName). Ends (IsStored bytes) s e) (sym does)
          (record { holds = with_object-holds bytes s none; asks = λ bytes was. was }, new-good none, (is_some-from (held (with_object bytes s).store.objects (name_of bytes)) bytes (held-put-own s.store.objects bytes), refl))
      by (Other found is differ does) =
          let named : name_of found ≡ name_of bytes = held-named s.store.objects (name_of bytes) found is in
          subst (λ (e : Ended ObjectName). Ends (IsStored bytes) s e) (sym does)
          (good, record { two = record { first = named; second = refl; differ = differ }; held = good.met found (ap (held s.store.objects) named ∙ is); output = output })

  -- the names of objects that are held
  abbrev AreStored : List (List ℕ) → List ObjectName → State → Type 0
  AreStored outputs names s = AreHeld s.store names × (names ≡ map name_of outputs)

  all-stored : (outputs : List (List ℕ)) (s : State) → Good s → AllByRecursion (IsJobOutput answer s.asked) outputs → Ends (AreStored outputs) s (each store_one outputs s)
  all-stored [] s good all = (same s, good, (tt, refl))
  all-stored (bytes ∷ outputs) s good all =
      then (IsStored bytes) (AreStored (bytes ∷ outputs)) s (store_one bytes s) _ (stored bytes s good all.0)
      (λ y t later good there. then (AreStored outputs) (AreStored (bytes ∷ outputs)) t (each store_one outputs t) (λ ys. give (y ∷ ys))
      (all-stored outputs t good (all-more (IsJobOutput answer s.asked) (IsJobOutput answer t.asked) later.asks outputs all.1))
      (λ ys u more good all. (same u, good, ((some-holds t.store u.store more.holds y there.0, all.0), λ i. there.1 i ∷ all.1 i))))

  -- where a thunk is marked
  mark-good : (name : ObjectName) (outputs : List ObjectName) (s : State) → Good s → AreThere outputs s → Good (marked name outputs s)
  mark-good name outputs s good there = record {
    outputs = λ other outs is. by other outs (eq_by_cmp name_cmp name other) is;
    met = good.met;
    names = λ fit other outs is. names-by fit other outs (eq_by_cmp name_cmp name other) is;
    jobs = good.jobs;
  }
    where
      by : (other : ObjectName) (outs : List ObjectName) (test : Bool) → cond test (Some outputs) (s.reduced other) ≡ Some outs → AreHeld s.store outs
      by other outs true is = subst (AreHeld s.store) (same_Some outputs outs is) there.0
      by other outs false is = good.outputs other outs is

      names-by : Fit → (other : ObjectName) (outs : List ObjectName) (test : Bool) → cond test (Some outputs) (s.reduced other) ≡ Some outs → AreNames outs
      names-by fit other outs true is = subst AreNames (same_Some outputs outs is) (there.1 fit)
      names-by fit other outs false is = good.names fit other outs is

  -- where a job more is asked for
  asked-later : (job : Job) (s : State) → Later s (asked_for job s)
  asked-later job s = record {
    holds = λ name bytes was. was;
    asks = λ bytes was. record { place = was.place; job = was.job; outputs = was.outputs; index = was.index; is_asked = get-prefix s.asked (job ∷ []) was.place was.job was.is_asked; answered = was.answered; one = was.one };
  }

  asked-good : (job : Job) (s : State) → Good s → (Fit → IsFair s.store job) → Good (asked_for job s)
  asked-good job s good fair = record {
    outputs = good.outputs;
    met = λ bytes is. by bytes (good.met bytes is);
    names = good.names;
    jobs = λ fit i other is. fair-by fit i other (get-more s.asked job i other is);
  }
    where
      by : (bytes : List ℕ) → Met s bytes → Met (asked_for job s) bytes
      by bytes (inl was) = inl was
      by bytes (inr was) = inr ((asked-later job s).asks bytes was)

      fair-by : Fit → (i : ℕ) (other : Job) → ((slice_get s.asked i ≡ Some other) ⊎ (job ≡ other)) → IsFair s.store other
      fair-by fit i other (inl was) = good.jobs fit i other was
      fair-by fit i other (inr e) = subst (IsFair s.store) e (fair fit)

  finishes : (name : ObjectName) (t : Parts) (job : Job) (outcome : Outcome) (s : State) → Good s → (Fit → Fits job outcome) → ((outputs : List (List ℕ)) → outcome ≡ Done outputs → AllByRecursion (IsJobOutput answer s.asked) outputs) →
      Ends AreThere s (finished name t outcome s)
  finishes name t job (Failed status) s good fits all = (good, tt)
  finishes name t job (Done outputs) s good fits all =
      then (AreStored outputs) AreThere s (each store_one outputs s) _ (all-stored outputs s good (all outputs refl))
      (λ names u later good there. (
        record { holds = λ name bytes was. was; asks = λ bytes was. was },
        record { outputs = good.outputs; met = good.met; names = good.names; jobs = good.jobs },
        (there.0, λ fit. subst AreNames (sym there.1) (are-names outputs (fits fit).1)),
      ))

  asks : (text : List ℕ) (name : ObjectName) (t : Parts) (job : Job) (s : State) → Good s → (Fit → IsFair s.store job) → Ends AreThere s (go_on (ask answer text job s) (λ outcome. finished name t outcome))
  asks text name t job s good fair = by (answer (length s.asked) job) refl
    where
      by : (found : Option Outcome) → answer (length s.asked) job ≡ found →
          Ends AreThere s (go_on (go_on (need found (Stands text job) s) (λ outcome. note_asked job >>= λ _. give outcome)) (λ outcome. finished name t outcome))
      by None is = (good, tt)
      by (Some outcome) is =
          earlier AreThere s (asked_for job s) (finished name t outcome (asked_for job s)) (asked-later job s)
          (finishes name t job outcome (asked_for job s) (asked-good job s good fair) (λ fit. all_fit fit (length s.asked) job outcome is)
          (λ outputs done. all-placed (IsJobOutput answer (asked_for job s).asked) outputs
          (λ i bytes at. record { place = length s.asked; job = job; outputs = outputs; index = i; is_asked = get-last s.asked job; answered = is ∙ ap (λ o. Some o) done; one = at })))

  -- a thunk whose values are there
  outputs-of : (name : ObjectName) (t : Parts) (job : Job) (s : State) → Good s → (Fit → IsFair s.store job) → job_of t s ≡ Got job s → (hit : Option (List ObjectName)) → hit_of s.store (name_of (text_of t)) (length t.outputs) ≡ hit →
      Ends AreThere s (outputs_of answer name t hit s)
  outputs-of name t job s good fair made (Some outputs) is =
      (same s, good, (hit-held s.store (name_of (text_of t)) (length t.outputs) outputs is, λ fit. hit-names s.store (name_of (text_of t)) (length t.outputs) outputs is))
  outputs-of name t job s good fair made None is =
      subst (λ (e : Ended Job). Ends AreThere s (go_on e (λ job. ask answer (text_of t) job >>= λ outcome. finished name t outcome))) (sym made) (asks (text_of t) name t job s good fair)

  -- the REFs of a thunk that was read
  are-refs : (bytes : List ℕ) (t : Parts) → thunk_of bytes ≡ Some t → AllByRecursion IsRef (refs_of t)
  are-refs bytes t read = let rules = (thunk_of-text bytes t read).rules in (rules.function, rules.input_refs)

  reduces : (name : ObjectName) (thunk : Parts) (values : List ObjectName) (s : State) → Good s → IsThunkAt name thunk s → AreValues (refs_of thunk) values s →
      Ends AreThere s (reduce answer name (resolved_by thunk values) s)
  unfolding reduce
  reduces name thunk values s good at there =
      let t = resolved_by thunk values in
      then (λ _ u. u ≡ s) AreThere s (check (nat_le (resolved_size t) max_job) (Refused (TooBig name (resolved_size t))) s) _
      (small_by (nat_le (resolved_size t) max_job) refl)
      (λ _ u later good is.
      let made = job-resolved u.store thunk values there.1 (subst (λ (u : State). AreHeld u.store values) (sym is) there.0) in
      let made_here = made-job t u made in
      let fair : Fit → IsFair u.store made.job = λ fit.
      let rules = there.2 fit (are-refs at.0 thunk at.2) in
      (subst IsThunk (sym made.same) (resolved_is_thunk thunk values (thunk_of-text at.0 thunk at.2).rules rules.0 rules.1), made.there) in
      then AreThere AreThere u (outputs_of answer name t (hit_of u.store (name_of (text_of t)) (length t.outputs)) u) _
      (outputs-of name t made.job u good fair made_here (hit_of u.store (name_of (text_of t)) (length t.outputs)) refl)
      (λ outputs v later good there. (record { holds = λ name bytes was. was; asks = λ bytes was. was }, mark-good name outputs v good there, there)))
    where
      small_by : (test : Bool) → nat_le (resolved_size (resolved_by thunk values)) max_job ≡ test →
          Ends (λ _ u. u ≡ s) s (check test (Refused (TooBig name (resolved_size (resolved_by thunk values)))) s)
      small_by true is = (same s, good, refl)
      small_by false is =
          let t = resolved_by thunk values in
          let made = job-resolved s.store thunk values there.1 there.0 in
          let made_here = made-job t s made in (
            good,
            record {
              bytes = at.0;
              thunk = thunk;
              values = values;
              job = made.job;
              there = at.1;
              read = at.2;
              made = made_here;
              length = sym (job-length t s s made.job made_here);
              big = leb-false (resolved_size t) max_job is;
            },
          )

  module _ (budget : ℕ) where
    module _ (deeper : Ref → Eval ObjectName) (deep : (r : Ref) (s : State) → Good s → Ends (IsValueOf r) s (deeper r s)) where
      pub all-values : (refs : List Ref) (s : State) → Good s → Ends (AreValues refs) s (each deeper refs s)
      all-values [] s good = (same s, good, (tt, refl, λ fit rules. (tt, tt)))
      all-values (r ∷ refs) s good =
          then (IsValueOf r) (AreValues (r ∷ refs)) s (deeper r s) _ (deep r s good)
          (λ y t later good there. then (AreValues refs) (AreValues (r ∷ refs)) t (each deeper refs t) (λ ys. give (y ∷ ys)) (all-values refs t good)
          (λ ys u more good all. (
            same u,
            good,
            (
              (some-holds t.store u.store more.holds y there.0, all.0),
              ap (λ n. suc n) all.1,
              λ fit rules. let one = there.1 fit rules.0 in let rest = all.2 fit rules.1 in ((one.0, rest.0), (one.1, rest.1)),
            ),
          )))

      outputs-at : (name : ObjectName) (index : ℕ) (known : Option (List ObjectName)) (s : State) → s.reduced name ≡ known → Good s → Ends AreThere s (outputs_at answer budget deeper name index known s)
      outputs-at name index (Some outputs) s is good = (same s, good, (good.outputs name outputs is, λ fit. good.names fit name outputs is))
      outputs-at name index None s is good =
          then (IsThunkAt name) AreThere s (entered budget name index s) _ (enters budget name index s good)
          (λ t u later good at. then (AreValues (refs_of t)) AreThere u (each deeper (refs_of t) u) _ (all-values (refs_of t) u good)
          (λ values v more good all. reduces name t values v good (at.0, more.holds name at.0 at.1, at.2) all))

      pub output-of : (name : ObjectName) (index : ℕ) (s : State) → Good s → Ends IsOutputName s (output_of answer budget deeper name index s)
      output-of name index s good =
          then AreThere IsOutputName s (outputs_at answer budget deeper name index (s.reduced name) s) _ (outputs-at name index (s.reduced name) s refl good)
          (λ outputs t later good there. needed IsOutputName (slice_get outputs index) (Refused (NoOutput name index)) t good (λ _. tt)
          (λ output is. (all-get (λ name. IsThere name t) outputs there.0 index output is, λ fit. all-get IsName outputs (there.1 fit) index output is)))

      passes : (kind : Kind) (output : ObjectName) (r : Ref) (s : State) → output.kind ≡ kind → Good s → IsOutputName output s → Ends (IsValueOf r) s (passed answer budget deeper kind output s)
      passes kinds.Value output r s kind good there = (same s, good, (there.0, λ fit rules. (there.1 fit, kind)))
      passes kinds.Thunk output r s kind good there =
          then Any (IsValueOf r) s (count_step budget output s) _ (counted budget output s good)
          (λ _ t later good _. weaken (IsValueOf (Out output 0)) (IsValueOf r) t (deeper (Out output 0) t)
          (λ name u value. (value.0, λ fit rules. value.1 fit (there.1 fit, kind, lit< tt))) (deep (Out output 0) t good))

      pub value-by : (r : Ref) (s : State) → Good s → Ends (IsValueOf r) s (value_by answer budget deeper r s)
      value-by (Value name) s good = a-value name s good
      value-by (Out name index) s good =
          then IsOutputName (IsValueOf (Out name index)) s (output_of answer budget deeper name index s) _ (output-of name index s good)
          (λ output t later good there. passes output.kind output (Out name index) t refl good there)

    pub within : (left : ℕ) (r : Ref) (s : State) → Good s → Ends (IsValueOf r) s (value_within answer budget left r s)
    unfolding value_within
    within zero = value-by (beyond answer budget) (λ r s good. (good, tt))
    within (suc left) = value-by (value_within answer budget left) (within left)

    pub a-value_of : (r : Ref) (s : State) → Good s → Ends (IsValueOf r) s (value_of answer budget r s)
    unfolding value_of
    a-value_of = within budget

    pub values-end : (refs : List Ref) (s : State) → Good s → Ends (AreValues refs) s (values_of answer budget refs s)
    values-end refs s good = all-values (value_of answer budget) a-value_of refs s good

  -- at the start nothing was done yet, whatever notes there are
  pub good-start : (notes : Contents) → Good (start (record { objects = first.objects; notes = notes }))
  good-start notes = record {
    outputs = λ name outputs is. absurd (none-some outputs is);
    met = λ bytes is. inl is;
    names = λ fit name outputs is. absurd (none-some outputs is);
    jobs = λ fit i job is. absurd (none-some job is);
  }

  -- the state in which a good one ends is good
  end-good : {A : Type 0} (Q : A → State → Type 0) (s : State) (e : Ended A) → Ends Q s e → Good (state_after e)
  end-good Q s (Got x t) h = h.1
  end-good Q s (Stopped why t) h = h.0

  pub values-good : (budget : ℕ) (refs : List Ref) (s : State) → Good s → Good (state_after (values_of answer budget refs s))
  values-good budget refs s good = end-good (AreValues refs) s (values_of answer budget refs s) (values-end budget refs s good)

-- ---- the laws

-- where nothing is asked of the answers, a state whose outputs are held is good, with its store as the first
good-here : (answer : ℕ → Job → Option Outcome) (s : State) → OutputsAreHeld s → Good answer s.store ⊥ (none_fit answer) s
good-here answer s outputs = record { outputs = outputs; met = λ bytes is. inl is; names = λ never. absurd never; jobs = λ never. absurd never }

pub outputs-begin : (first : Store) → OutputsAreHeld (start first)
outputs-begin first name outputs is = absurd (none-some outputs is)

module _ (answer : ℕ → Job → Option Outcome) (budget : ℕ) (refs : List Ref) where
  values-are : (s : State) (names : List ObjectName) (t : State) → OutputsAreHeld s → values_of answer budget refs s ≡ Got names t → AreValues answer s.store ⊥ (none_fit answer) refs names t
  values-are s names t outputs is =
      (subst (λ (e : Ended (List ObjectName)). Ends answer s.store ⊥ (none_fit answer) (AreValues answer s.store ⊥ (none_fit answer) refs) s e) is
      (values-end answer s.store ⊥ (none_fit answer) budget refs s (good-here answer s outputs))).2

  pub values-held : (s : State) (names : List ObjectName) (t : State) → OutputsAreHeld s → values_of answer budget refs s ≡ Got names t → AreHeld t.store names
  values-held s names t outputs is = (values-are s names t outputs is).0

  pub outputs-held : (s : State) → OutputsAreHeld s → OutputsAreHeld (state_after (values_of answer budget refs s))
  outputs-held s outputs = (values-good answer s.store ⊥ (none_fit answer) budget refs s (good-here answer s outputs)).outputs

  -- why an evaluation stopped
  pub stop-shows : (first : Store) (why : Stop) (last : State) → values_of answer budget refs (start first) ≡ Stopped why last → StopShows answer first ⊥ (none_fit answer) why last
  stop-shows first why last is =
      (subst (λ (e : Ended (List ObjectName)). Ends answer first ⊥ (none_fit answer) (AreValues answer first ⊥ (none_fit answer) refs) (start first) e) is
      (values-end answer first ⊥ (none_fit answer) budget refs (start first) (good-start answer first ⊥ (none_fit answer) first.notes))).1

pub jobs-there : (answer : ℕ → Job → Option Outcome) (budget : ℕ) (t : Parts) (s : State) (values : List ObjectName) (u : State) → OutputsAreHeld s → values_of answer budget (refs_of t) s ≡ Got values u →
    (job : Job) × (job_of (resolved_by t values) u ≡ Got job u) × (job_size job ≡ resolved_size (resolved_by t values))
jobs-there answer budget t s values u outputs is =
    let are = values-are answer budget (refs_of t) s values u outputs is in
    let made = job-resolved u.store t values are.1 are.0 in
    let made_here = made-job (resolved_by t values) u made in
    (made.job, made_here, job-length (resolved_by t values) u u made.job made_here)
