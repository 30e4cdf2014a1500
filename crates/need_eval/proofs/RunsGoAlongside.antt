-- Two evaluations side by side: one from a store with true notes and maybe some of what the other will write, and one from the
-- store at the first start, without notes, which asks for all jobs and comes to a known end.
use Rattle.std.proofs.Common.{◌≡◌, ◌≤◌, inl, inr, ℕ, zero, suc, Bool, true, false, cond, List, [], ◌∷◌, Option, Some, None, length, map, refl, sym, ap, subst, ◌∙◌}
use Rattle.std.specs.Prelude.{◌⊎◌, slice_get, nat_lt, nat_le, is_some, IsSome, option_and_then}
use Rattle.std.specs.List.{AllByRecursion}
use Rattle.std.specs.Ordering.{eq_by_cmp}
use Rattle.std.proofs.lemmas.Option.{same_Some}
use Rattle.std.proofs.lemmas.Bool.{leb-true, leb-false}
use Rattle.object_name.specs.declared.kind.Kind.{Kind}
use Rattle.object_name.specs.declared.kind.Kind.TheVariants as kinds
use Rattle.object_name.specs.Name.{ObjectName, name_of, name_cmp}
use Rattle.object_name.proofs.PublicLaws.{eq_by_cmp-name, name_cmp-same}
use Rattle.thunk_codec.specs.declared.reference.Ref.{Ref}
use Rattle.thunk_codec.specs.declared.reference.Ref.TheVariants.{Value, Out}
use Rattle.thunk_codec.specs.declared.job.Job.{Job}
use Rattle.thunk_codec.specs.declared.job.Outcome.{Outcome}
use Rattle.thunk_codec.specs.declared.job.Outcome.TheVariants.{Done, Failed}
use Rattle.thunk_codec.specs.Outcome.{Fits}
use Rattle.thunk_codec.specs.Thunk.{Parts, text_of}
use Rattle.thunk_codec.specs.Reading.{thunk_of}
use Rattle.thunk_codec.specs.Resolved.{refs_of, resolved_by}
use Rattle.thunk_codec.specs.Job.{resolved_size, max_job}
use Rattle.blob_store.specs.Store.{Store, Write, held, if_named, own_write}
use Rattle.blob_store.specs.Store.Write.{Object, Note}
use Rattle.reduction_cache.specs.Note.{note_text}
use Rattle.reduction_cache.specs.Hit.{hit_of, note_write}
use Rattle.need_eval.specs.declared.fault.Refusal.TheVariants.{Missing, BadThunk, NoOutput, Spent, TooBig}
use Rattle.need_eval.specs.Eval.{State, Stop, Refused, Ended, Got, Stopped, Eval, go_on, ◌>>=◌, give, check, need, each, step, make_write, mark}
use Rattle.need_eval.specs.Evaluation.{object, held_value, thunk_at, job_of, store_one, finished, reduce, count_step, entered, outputs_at, output_of, passed, value_by, beyond, value_within, value_of, values_of, by_function}
use Rattle.need_eval.specs.WritePrefix.{state_after}
use Rattle.need_eval.specs.MetObjects.{AreHeld, IsHeld, IsJobOutput, IsMet, HaveOwnNames}
use Rattle.need_eval.specs.StopAndAgain.{resolved, resolved_name, IsTrueNote, TrueNotes}
use Rattle.blob_store.proofs.PublicLaws.{held-put-own, if_named-own}
use Rattle.need_eval.proofs.KeptRelations.{Keeps, keeps-then, keeps-need, keeps-check, keeps-each, keeps-count, keeps-store_one, keeps-finished, keeps-reduce, keeps-passed, keeps-value_by}
use Rattle.need_eval.proofs.JobsOfThunks.{held-named}
use Rattle.need_eval.proofs.OneTurn.{marked, asked_for, reduce-hit, reduce-run, reduce-too-big}
use Rattle.need_eval.proofs.Places.{get-last, all-placed, all-append}
use Rattle.need_eval.proofs.HeldStays.{HoldsAll, are-held}
use Rattle.need_eval.proofs.HitsAreHeld.{hits, held-from_test, hit-same}
use Rattle.need_eval.proofs.StoringCases.{StoreCase, Known, New, Other, store_case, with_object, known-does, new-does, all-known, GivesOnly, all-names}
use Rattle.need_eval.proofs.JobsAreThere.{HeldJob, job-resolved, job-is, held-more}
use Rattle.need_eval.proofs.ValuesAreHeld.{none_fit, Good, Later, Ends, IsThunkAt, IsValueOf, IsOutputName, AreValues, Any, counted, enters, all-values, output-of, within}
use Rattle.need_eval.proofs.OnTheWay.{IsOnTheWay, OnTheWay-kept, OnTheWay-write, OnTheWay-mark, OnTheWay-step, OnTheWay-ask}
use Rattle.need_eval.proofs.OwnNotesAreTrue.{own-true, note-bytes}

-- ---- notes: the one written later, or the one from before

abbrev pub noted : Option (List ℕ) → Option (List ℕ) → Option (List ℕ)
noted (Some text) before = Some text
noted None before = before

-- the state after a note is written
abbrev with_note : ObjectName → List ObjectName → State → State
with_note name outputs s = state_after (make_write (note_write name outputs) s)

abbrev pub text_with : ObjectName → List ObjectName → List ℕ
text_with name outputs = note_text (record { resolved = name; outputs = outputs })

put-both : (test : Bool) (bytes : List ℕ) (s z e : Option (List ℕ)) → ((s ≡ z) ⊎ (s ≡ e)) → ((cond test (Some bytes) s ≡ cond test (Some bytes) z) ⊎ (cond test (Some bytes) s ≡ e))
put-both true bytes s z e h = inl refl
put-both false bytes s z e h = h

put-one : (test : Bool) (bytes : List ℕ) (s z e : Option (List ℕ)) → (test ≡ true → s ≡ Some bytes) → ((s ≡ z) ⊎ (s ≡ e)) → ((s ≡ cond test (Some bytes) z) ⊎ (s ≡ e))
put-one true bytes s z e own h = inl (own refl)
put-one false bytes s z e own h = h

note-both : (test : Bool) (text : List ℕ) (s z x : Option (List ℕ)) → s ≡ noted z x → cond test (Some text) s ≡ noted (cond test (Some text) z) x
note-both true text s z x h = refl
note-both false text s z x h = h

note-one : (test : Bool) (text : List ℕ) (s z x : Option (List ℕ)) → (test ≡ true → s ≡ Some text) → s ≡ noted z x → s ≡ noted (cond test (Some text) z) x
note-one true text s z x own h = own refl
note-one false text s z x own h = h

noted-some : (s z x : Option (List ℕ)) (text : List ℕ) → s ≡ noted z x → z ≡ Some text → s ≡ z
noted-some s z x text h is = h ∙ ap (λ z. noted z x) is ∙ sym is

-- no two jobs have resolved texts of one name
abbrev pub OneText : List Job → Type 0
OneText jobs = (i j : ℕ) (a b : Job) → slice_get jobs i ≡ Some a → slice_get jobs j ≡ Some b → resolved_name a ≡ resolved_name b → a ≡ b

pub record Premises (outcome : Job → Outcome) (first : Store) (end : State) : Type 0 where
  pub fits : (job : Job) → Fits job (outcome job)
  pub met : (bytes : List ℕ) → held end.store.objects (name_of bytes) ≡ Some bytes → IsMet (by_function outcome) first end.asked bytes
  pub own_names : HaveOwnNames (IsMet (by_function outcome) first end.asked)
  pub one_text : OneText end.asked

-- a note was written for one of these jobs
pub record WrittenFor (outcome : Job → Outcome) (jobs : List Job) (name : ObjectName) (text : List ℕ) : Type 0 where
  pub place : ℕ
  pub job : Job
  pub outputs : List (List ℕ)
  pub at : slice_get jobs place ≡ Some job
  pub named : resolved_name job ≡ name
  pub done : outcome job ≡ Done outputs
  pub is_text : text ≡ text_with name (map name_of outputs)

module _ (outcome : Job → Outcome) (first x : Store) (end : State) (p : Premises outcome first end) where
  abbrev answer : ℕ → Job → Option Outcome
  answer = by_function outcome

  -- a note under this name is true of each job that has it
  abbrev pub IsTrue : ObjectName → List ℕ → Type 0
  IsTrue name text = (place : ℕ) (job : Job) → slice_get end.asked place ≡ Some job → resolved_name job ≡ name → IsTrueNote outcome job text

  -- a write that the other evaluation makes too
  abbrev pub IsOwn : Write → Type 0
  IsOwn (Object name bytes) = end.store.objects name ≡ Some bytes
  IsOwn (Note name text) = (is_some (end.store.notes name) ≡ true) × WrittenFor outcome end.asked name text

  -- and so it is
  pub written-true : (name : ObjectName) (text : List ℕ) → WrittenFor outcome end.asked name text → IsTrue name text
  written-true name text w place job at named =
      let same : w.job ≡ job = p.one_text w.place place w.job job w.at at (w.named ∙ sym named) in
      subst (IsTrueNote outcome job) (sym w.is_text)
      (subst (λ (job : Job). IsTrueNote outcome job (text_with name (map name_of w.outputs))) same (own-true outcome p.fits w.job name w.outputs w.named w.done))

  pub record Alongside (s z : State) : Type 0 where
    pub steps : s.steps ≡ z.steps
    pub reduced : s.reduced ≡ z.reduced
    pub objects : (name : ObjectName) → (s.store.objects name ≡ z.store.objects name) ⊎ (s.store.objects name ≡ end.store.objects name)
    pub notes : (name : ObjectName) → s.store.notes name ≡ noted (z.store.notes name) (x.notes name)
    pub trues : TrueNotes outcome s.store end.asked
    pub writes : AllByRecursion IsOwn s.writes

  -- the other comes to the end from here
  abbrev pub Leads : {A : Type 0} → Ended A → Type 0
  Leads (Got y t) = IsOnTheWay t end
  Leads (Stopped why t) = t ≡ end

  abbrev pub Alike : {A : Type 0} → Ended A → Ended A → Type 0
  Alike (Got y s) (Got w z) = (y ≡ w) × Alongside s z
  Alike (Got y s) (Stopped why z) = ⊥
  Alike (Stopped why s) (Got y z) = ⊥
  Alike (Stopped why s) (Stopped other z) = (why ≡ other) × Alongside s z

  leads-state : {A : Type 0} (e : Ended A) → Leads e → IsOnTheWay (state_after e) end
  leads-state (Got y t) h = h
  leads-state (Stopped why t) h = subst (λ (s : State). IsOnTheWay s end) (sym h) (OnTheWay-kept.same end)

  leads-first : {A B : Type 0} (d : Ended A) (g : A → Eval B) → ((y : A) → Keeps IsOnTheWay (g y)) → Leads (go_on d g) → Leads d
  leads-first (Got y t) g keeps h = OnTheWay-kept.both t (state_after (g y t)) end (keeps y t) (leads-state (g y t) h)
  leads-first (Stopped why t) g keeps h = h

  toward : {A : Type 0} (m : Eval A) (z : State) → Keeps IsOnTheWay m → Leads (m z) → IsOnTheWay z end
  toward m z keeps h = OnTheWay-kept.both z (state_after (m z)) end (keeps z) (leads-state (m z) h)

  alike-go : {A B : Type 0} (e d : Ended A) (f g : A → Eval B) → ((y : A) → Keeps IsOnTheWay (g y)) → (Leads d → Alike e d) →
      ((y : A) (s z : State) → d ≡ Got y z → Alongside s z → Leads (g y z) → Alike (f y s) (g y z)) → Leads (go_on d g) → Alike (go_on e f) (go_on d g)
  alike-go (Got y s) (Got w z) f g keeps one next leads =
      let h = one (leads-first (Got w z) g keeps leads) in
      subst (λ y. Alike (f y s) (g w z)) (sym h.0) (next w s z refl h.1 leads)
  alike-go (Got y s) (Stopped why z) f g keeps one next leads = absurd (one leads)
  alike-go (Stopped why s) (Got w z) f g keeps one next leads = absurd (one (leads-first (Got w z) g keeps leads))
  alike-go (Stopped why s) (Stopped other z) f g keeps one next leads = one leads

  alike-of : {A : Type 0} (e f d g : Ended A) → e ≡ f → d ≡ g → Alike f g → Alike e d
  alike-of e f d g left right h = subst (λ e. Alike e d) (sym left) (subst (λ d. Alike f d) (sym right) h)

  -- ---- reading

  sees : (name : ObjectName) (s z : State) → Alongside s z → IsOnTheWay z end → (bytes : List ℕ) → held z.store.objects name ≡ Some bytes → s.store.objects name ≡ z.store.objects name
  sees name s z along to bytes is = by (along.objects name)
    where
      by : ((s.store.objects name ≡ z.store.objects name) ⊎ (s.store.objects name ≡ end.store.objects name)) → s.store.objects name ≡ z.store.objects name
      by (inl same) = same
      by (inr same) = same ∙ to.objects name bytes is

  same-held : (s z : Store) (name : ObjectName) → s.objects name ≡ z.objects name → held s.objects name ≡ held z.objects name
  same-held s z name same = ap (λ o. option_and_then (if_named name) o) same

  holds : (s z : State) → Alongside s z → IsOnTheWay z end → HoldsAll z.store s.store
  holds s z along to name bytes is = same-held s.store z.store name (sees name s z along to bytes is) ∙ is

  held-end : (s z : State) → Alongside s z → IsOnTheWay z end → HoldsAll s.store end.store
  held-end s z along to name bytes is = by (along.objects name)
    where
      by : ((s.store.objects name ≡ z.store.objects name) ⊎ (s.store.objects name ≡ end.store.objects name)) → held end.store.objects name ≡ Some bytes
      by (inl same) =
          let there : held z.store.objects name ≡ Some bytes = sym (same-held s.store z.store name same) ∙ is in
          same-held end.store z.store name (to.objects name bytes there) ∙ there
      by (inr same) = sym (same-held s.store end.store name same) ∙ is

  alike-need : {A : Type 0} (found : Option A) (why : Stop) (s z : State) → Alongside s z → Alike (need found why s) (need found why z)
  alike-need (Some y) why s z along = (refl, along)
  alike-need None why s z along = (refl, along)

  alike-check : (test : Bool) (why : Stop) (s z : State) → Alongside s z → Alike (check test why s) (check test why z)
  alike-check true why s z along = (refl, along)
  alike-check false why s z along = (refl, along)

  alike-object : (name : ObjectName) (s z : State) → Alongside s z → Leads (object name z) → Alike (object name s) (object name z)
  alike-object name s z along leads =
      subst (λ o. Alike (need o (Refused (Missing name)) s) (object name z)) (sym (by (held z.store.objects name) refl leads))
      (alike-need (held z.store.objects name) (Refused (Missing name)) s z along)
    where
      at-end : held z.store.objects name ≡ None → z ≡ end → ((s.store.objects name ≡ z.store.objects name) ⊎ (s.store.objects name ≡ end.store.objects name)) → held s.store.objects name ≡ None
      at-end none is (inl same) = same-held s.store z.store name same ∙ none
      at-end none is (inr same) = same-held s.store z.store name (same ∙ ap (λ (t : State). t.store.objects name) (sym is)) ∙ none

      by : (o : Option (List ℕ)) → held z.store.objects name ≡ o → Leads (need o (Refused (Missing name)) z) → held s.store.objects name ≡ held z.store.objects name
      by None none leads = at-end none leads (along.objects name) ∙ sym none
      by (Some bytes) is leads = same-held s.store z.store name (sees name s z along leads bytes is)

  alike-value : (name : ObjectName) (s z : State) → Alongside s z → Leads (held_value name z) → Alike (held_value name s) (held_value name z)
  alike-value name s z along leads =
      alike-go (object name s) (object name z) (λ _. give name) (λ _. give name) (λ _ s. OnTheWay-kept.same s) (alike-object name s z along) (λ _ s z _ along leads. (refl, along)) leads

  alike-thunk : (name : ObjectName) (s z : State) → Alongside s z → Leads (thunk_at name z) → Alike (thunk_at name s) (thunk_at name z)
  alike-thunk name s z along leads =
      let f : List ℕ → Eval Parts = λ bytes. need (thunk_of bytes) (Refused (BadThunk name)) in
      alike-go (object name s) (object name z) f f (λ bytes. keeps-need IsOnTheWay OnTheWay-kept (thunk_of bytes) (Refused (BadThunk name))) (alike-object name s z along)
      (λ bytes s z _ along leads. alike-need (thunk_of bytes) (Refused (BadThunk name)) s z along) leads

  -- ---- storing

  along-new : (bytes : List ℕ) (s z : State) → Alongside s z → end.store.objects (name_of bytes) ≡ Some bytes → Alongside (with_object bytes s) (with_object bytes z)
  along-new bytes s z along own = record {
    steps = along.steps;
    reduced = along.reduced;
    objects = λ name. put-both (eq_by_cmp name_cmp name (name_of bytes)) bytes (s.store.objects name) (z.store.objects name) (end.store.objects name) (along.objects name);
    notes = along.notes;
    trues = along.trues;
    writes = all-append IsOwn s.writes (own_write bytes) along.writes own;
  }

  along-known : (bytes : List ℕ) (s z : State) → Alongside s z → s.store.objects (name_of bytes) ≡ Some bytes → Alongside s (with_object bytes z)
  along-known bytes s z along own = record {
    steps = along.steps;
    reduced = along.reduced;
    objects = λ name. put-one (eq_by_cmp name_cmp name (name_of bytes)) bytes (s.store.objects name) (z.store.objects name) (end.store.objects name)
        (λ test. ap s.store.objects ((eq_by_cmp-name name (name_of bytes)).0 test) ∙ own) (along.objects name);
    notes = along.notes;
    trues = along.trues;
    writes = along.writes;
  }

  -- bytes that are held at the end under the name of an output are that output
  is-output : (bytes found : List ℕ) → IsJobOutput answer end.asked bytes → held end.store.objects (name_of bytes) ≡ Some found → found ≡ bytes
  is-output bytes found output is =
      let named = held-named end.store.objects (name_of bytes) found is in
      p.own_names found bytes (p.met found (ap (held end.store.objects) named ∙ is)) (inr output) named

  alike-store : (bytes : List ℕ) (s z : State) → Alongside s z → IsJobOutput answer end.asked bytes → Leads (store_one bytes z) → Alike (store_one bytes s) (store_one bytes z)
  alike-store bytes s z along output leads = by (store_case bytes z)
    where
      new-by : held z.store.objects (name_of bytes) ≡ None → end.store.objects (name_of bytes) ≡ Some bytes →
          ((s.store.objects (name_of bytes) ≡ z.store.objects (name_of bytes)) ⊎ (s.store.objects (name_of bytes) ≡ end.store.objects (name_of bytes))) →
          Alike (store_one bytes s) (Got (name_of bytes) (with_object bytes z))
      new-by none own (inl same) =
          subst (λ e. Alike e (Got (name_of bytes) (with_object bytes z))) (sym (new-does bytes s (same-held s.store z.store (name_of bytes) same ∙ none))) (refl, along-new bytes s z along own)
      new-by none own (inr same) =
          let here : s.store.objects (name_of bytes) ≡ Some bytes = same ∙ own in
          subst (λ e. Alike e (Got (name_of bytes) (with_object bytes z)))
          (sym (known-does bytes s (ap (λ o. option_and_then (if_named (name_of bytes)) o) here ∙ if_named-own (name_of bytes) bytes refl)))
          (refl, along-known bytes s z along here)

      by : StoreCase bytes z → Alike (store_one bytes s) (store_one bytes z)
      by (Known there does) =
          let to : IsOnTheWay z end = subst Leads does leads in
          alike-of (store_one bytes s) (Got (name_of bytes) s) (store_one bytes z) (Got (name_of bytes) z) (known-does bytes s (holds s z along to (name_of bytes) bytes there)) does (refl, along)
      by (New none does) =
          let to : IsOnTheWay (with_object bytes z) end = subst Leads does leads in
          let own : end.store.objects (name_of bytes) ≡ Some bytes =
          to.objects (name_of bytes) bytes (held-put-own z.store.objects bytes) ∙ ap (λ test. cond test (Some bytes) (z.store.objects (name_of bytes))) (name_cmp-same (name_of bytes)) in
          subst (λ d. Alike (store_one bytes s) d) (sym does) (new-by none own (along.objects (name_of bytes)))
      by (Other found there differ does) =
          let is : z ≡ end = subst Leads does leads in
          absurd (differ (is-output bytes found output (ap (λ (t : State). held t.store.objects (name_of bytes)) (sym is) ∙ there)))

  keeps-stores : (outputs : List (List ℕ)) → Keeps IsOnTheWay (each store_one outputs)
  keeps-stores outputs = keeps-each IsOnTheWay OnTheWay-kept store_one outputs (keeps-store_one IsOnTheWay OnTheWay-kept OnTheWay-write)

  alike-stores : (outputs : List (List ℕ)) (s z : State) → Alongside s z → AllByRecursion (IsJobOutput answer end.asked) outputs → Leads (each store_one outputs z) → Alike (each store_one outputs s) (each store_one outputs z)
  alike-stores [] s z along all leads = (refl, along)
  alike-stores (bytes ∷ outputs) s z along all leads =
      let f : ObjectName → Eval (List ObjectName) = λ y. each store_one outputs >>= λ ys. give (y ∷ ys) in
      alike-go (store_one bytes s) (store_one bytes z) f f
      (λ y. keeps-then IsOnTheWay OnTheWay-kept (each store_one outputs) (λ ys. give (y ∷ ys)) (keeps-stores outputs) (λ _ s. OnTheWay-kept.same s))
      (alike-store bytes s z along all.0)
      (λ y s z _ along leads. alike-go (each store_one outputs s) (each store_one outputs z) (λ ys. give (y ∷ ys)) (λ ys. give (y ∷ ys)) (λ _ s. OnTheWay-kept.same s)
      (alike-stores outputs s z along all.1) (λ ys s z _ along leads. (refl, along)) leads)
      leads

  -- ---- notes and marks

  along-mark : (name : ObjectName) (outputs : List ObjectName) (s z : State) → Alongside s z → Alongside (marked name outputs s) (marked name outputs z)
  along-mark name outputs s z along = record {
    steps = along.steps;
    reduced = λ i other. cond (eq_by_cmp name_cmp name other) (Some outputs) (along.reduced i other);
    objects = along.objects;
    notes = along.notes;
    trues = along.trues;
    writes = along.writes;
  }

  along-note : (name : ObjectName) (outputs : List ObjectName) (s z : State) → Alongside s z → WrittenFor outcome end.asked name (text_with name outputs) → IsOnTheWay (with_note name outputs z) end →
      Alongside (with_note name outputs s) (with_note name outputs z)
  along-note name outputs s z along written to = record {
    steps = along.steps;
    reduced = along.reduced;
    objects = along.objects;
    notes = λ other. note-both (eq_by_cmp name_cmp other name) (text_with name outputs) (s.store.notes other) (z.store.notes other) (x.notes other) (along.notes other);
    trues = λ place job bytes at there. true_by place job bytes at (eq_by_cmp name_cmp (resolved_name job) name) refl there;
    writes = all-append IsOwn s.writes (note_write name outputs) along.writes
        (to.notes name (ap (λ test. is_some (cond test (Some (text_with name outputs)) (z.store.notes name))) (name_cmp-same name)), written);
  }
    where
      true_by : (place : ℕ) (job : Job) (bytes : List ℕ) → slice_get end.asked place ≡ Some job → (test : Bool) → eq_by_cmp name_cmp (resolved_name job) name ≡ test →
          cond test (Some (text_with name outputs)) (s.store.notes (resolved_name job)) ≡ Some bytes → IsTrueNote outcome job bytes
      true_by place job bytes at true same there =
          subst (IsTrueNote outcome job) (same_Some (text_with name outputs) bytes there) (written-true name (text_with name outputs) written place job at ((eq_by_cmp-name (resolved_name job) name).0 same))
      true_by place job bytes at false differ there = along.trues place job bytes at there

  along-noted : (name : ObjectName) (outputs : List ObjectName) (s z : State) → Alongside s z → s.store.notes name ≡ Some (text_with name outputs) → Alongside s (with_note name outputs z)
  along-noted name outputs s z along own = record {
    steps = along.steps;
    reduced = along.reduced;
    objects = along.objects;
    notes = λ other. note-one (eq_by_cmp name_cmp other name) (text_with name outputs) (s.store.notes other) (z.store.notes other) (x.notes other)
        (λ test. ap s.store.notes ((eq_by_cmp-name other name).0 test) ∙ own) (along.notes other);
    trues = along.trues;
    writes = along.writes;
  }

  -- ---- reduction

  module _ (name : ObjectName) (t : Parts) (job : Job) (resolves : resolved job ≡ t) where
    abbrev resolved_to : ObjectName
    resolved_to = name_of (text_of t)

    named : resolved_name job ≡ resolved_to
    named = ap (λ (t : Parts). name_of (text_of t)) resolves

    abbrev noting : List ObjectName → Eval (List ObjectName)
    noting outputs = make_write (note_write resolved_to outputs) >>= λ _. give outputs

    abbrev marking : List ObjectName → Eval (List ObjectName)
    marking outputs = mark name outputs >>= λ _. give outputs

    keeps-noting : (outputs : List ObjectName) → Keeps IsOnTheWay (noting outputs)
    keeps-noting outputs s = OnTheWay-write (note_write resolved_to outputs) s tt

    keeps-marking : (outputs : List ObjectName) → Keeps IsOnTheWay (marking outputs)
    keeps-marking outputs s = OnTheWay-mark name outputs s

    abbrev job_at : State → Type 0
    job_at z = (place : ℕ) × (slice_get end.asked place ≡ Some job)

    are-outputs : (place : ℕ) (outputs : List (List ℕ)) → slice_get end.asked place ≡ Some job → outcome job ≡ Done outputs → AllByRecursion (IsJobOutput answer end.asked) outputs
    are-outputs place outputs at done =
        all-placed (IsJobOutput answer end.asked) outputs
        (λ i bytes is. record { place = place; job = job; outputs = outputs; index = i; is_asked = at; answered = ap (λ o. Some o) done; one = is })

    -- both ask for the job
    both-finish : (outcome_is : Outcome) → outcome job ≡ outcome_is → (place : ℕ) → slice_get end.asked place ≡ Some job → (s z : State) → Alongside s z →
        Leads (go_on (finished name t outcome_is z) marking) → Alike (go_on (finished name t outcome_is s) marking) (go_on (finished name t outcome_is z) marking)
    both-finish (Failed status) is place at s z along leads = (refl, along)
    both-finish (Done outputs) is place at s z along leads =
        alike-go (finished name t (Done outputs) s) (finished name t (Done outputs) z) marking marking keeps-marking
        (alike-go (each store_one outputs s) (each store_one outputs z) noting noting keeps-noting
        (alike-stores outputs s z along (are-outputs place outputs at is))
        (λ names s w got along leads.
        let these : names ≡ map name_of outputs = subst (GivesOnly (map name_of outputs)) got (all-names outputs z) in
        (refl, along-note resolved_to names s w along (record { place = place; job = job; outputs = outputs; at = at; named = named; done = is; is_text = ap (text_with resolved_to) these }) leads)))
        (λ names s z _ along leads. (refl, along-mark name names s z along))
        leads

    -- one knows the outputs, and the other asks for the job
    one-finishes : (outputs : List (List ℕ)) → outcome job ≡ Done outputs → (place : ℕ) → slice_get end.asked place ≡ Some job → (s z : State) → Alongside s z →
        AllByRecursion (IsHeld s.store) outputs → s.store.notes resolved_to ≡ Some (text_with resolved_to (map name_of outputs)) →
        Leads (go_on (finished name t (Done outputs) z) marking) → Alike (Got (map name_of outputs) (marked name (map name_of outputs) s)) (go_on (finished name t (Done outputs) z) marking)
    one-finishes outputs is place at s z along known noted leads =
        let first_leads : Leads (each store_one outputs z) = leads-first (each store_one outputs z) noting keeps-noting (leads-first (finished name t (Done outputs) z) marking keeps-marking leads) in
        let stored = subst (λ e. Alike e (each store_one outputs z)) (all-known outputs s known) (alike-stores outputs s z along (are-outputs place outputs at is) first_leads) in
        by (each store_one outputs z) stored
      where
        by : (d : Ended (List ObjectName)) → Alike (Got (map name_of outputs) s) d → Alike (Got (map name_of outputs) (marked name (map name_of outputs) s)) (go_on (go_on d noting) marking)
        by (Got names w) h =
            subst (λ names. Alike (Got (map name_of outputs) (marked name (map name_of outputs) s)) (Got names (marked name names (with_note resolved_to names w)))) h.0
            (refl, along-mark name (map name_of outputs) s (with_note resolved_to (map name_of outputs) w) (along-noted resolved_to (map name_of outputs) s w h.1 noted))
        by (Stopped why w) h = absurd h

    -- where the outputs of its note are held, they are the outputs
    are-known : (outputs : List (List ℕ)) (s : State) → HoldsAll s.store end.store → AllByRecursion (IsJobOutput answer end.asked) outputs → AreHeld s.store (map name_of outputs) → AllByRecursion (IsHeld s.store) outputs
    are-known [] s to all there = tt
    are-known (bytes ∷ outputs) s to all there = (by (held s.store.objects (name_of bytes)) refl there.0, are-known outputs s to all.1 there.1)
      where
        by : (o : Option (List ℕ)) → held s.store.objects (name_of bytes) ≡ o → IsSome o → IsHeld s.store bytes
        by None is some = absurd (cc some)
        by (Some found) is some = is ∙ ap (λ b. Some b) (is-output bytes found all.0 (to (name_of bytes) found is))

    along-asked : (s z : State) → Alongside s z → Alongside s (asked_for job z)
    along-asked s z along = record { steps = along.steps; reduced = along.reduced; objects = along.objects; notes = along.notes; trues = along.trues; writes = along.writes }

    along-both-asked : (s z : State) → Alongside s z → Alongside (asked_for job s) (asked_for job z)
    along-both-asked s z along = record { steps = along.steps; reduced = along.reduced; objects = along.objects; notes = along.notes; trues = along.trues; writes = along.writes }

    asked-at : (z : State) → IsOnTheWay (asked_for job z) end → slice_get end.asked (length z.asked) ≡ Some job
    asked-at z to = to.asked (length z.asked) job (get-last z.asked job)

    keeps-rest : (o : Outcome) → Keeps IsOnTheWay (λ s. go_on (finished name t o s) marking)
    keeps-rest o = keeps-then IsOnTheWay OnTheWay-kept (finished name t o) marking (keeps-finished IsOnTheWay OnTheWay-kept OnTheWay-write name t o) keeps-marking

    module _ (s z : State) (along : Alongside s z) (to : IsOnTheWay z end) (small : resolved_size t ≤ max_job) (there : HeldJob z.store job) (leads : Leads (reduce answer name t z)) where
      made-in : (s : State) → HeldJob s.store job → job_of t s ≡ Got job s
      made-in s there = subst (λ (t : Parts). job_of t s ≡ Got job s) resolves (job-is job s there)

      there_too : HeldJob s.store job
      there_too = held-more z.store s.store (holds s z along to) job there

      hit-and-miss : (outs : List ObjectName) → hit_of s.store resolved_to (length t.outputs) ≡ Some outs → hit_of z.store resolved_to (length t.outputs) ≡ None → Alike (reduce answer name t s) (reduce answer name t z)
      hit-and-miss outs hit miss =
          let run = reduce-run answer name t job (outcome job) z small miss (made-in z there) refl in
          let after : Leads (go_on (finished name t (outcome job) (asked_for job z)) marking) = subst Leads run leads in
          let at = asked-at z (toward (λ s. go_on (finished name t (outcome job) s) marking) (asked_for job z) (keeps-rest (outcome job)) after) in
          let h = hits s.store resolved_to (length t.outputs) outs hit in
          let said = along.trues (length z.asked) job h.bytes at (ap s.store.notes named ∙ h.there) h.note h.read (h.named ∙ sym named) (h.number ∙ ap (λ (t : Parts). length t.outputs) (sym resolves)) in
          let outputs = said.0 in
          let names : outs ≡ map name_of outputs = sym h.outputs ∙ said.2 in
          let held_all : AreHeld s.store (map name_of outputs) = subst (AreHeld s.store) said.2 (held-from_test s.store h.note.outputs h.held) in
          let known = are-known outputs s (held-end s z along to) (are-outputs (length z.asked) outputs at said.1) held_all in
          let text : s.store.notes resolved_to ≡ Some (text_with resolved_to (map name_of outputs)) = h.there ∙ ap (λ b. Some b) (note-bytes h.bytes h.note resolved_to (map name_of outputs) h.read h.named said.2) in
          alike-of (reduce answer name t s) (Got (map name_of outputs) (marked name (map name_of outputs) s)) (reduce answer name t z) (go_on (finished name t (Done outputs) (asked_for job z)) marking)
          (reduce-hit answer name t outs s small hit ∙ λ i. Got (names i) (marked name (names i) s))
          (run ∙ ap (λ o. go_on (finished name t o (asked_for job z)) marking) said.1)
          (one-finishes outputs said.1 (length z.asked) at s (asked_for job z) (along-asked s z along) known text
          (subst (λ o. Leads (go_on (finished name t o (asked_for job z)) marking)) said.1 after))

      both-miss : hit_of s.store resolved_to (length t.outputs) ≡ None → hit_of z.store resolved_to (length t.outputs) ≡ None → Alike (reduce answer name t s) (reduce answer name t z)
      both-miss no_hit miss =
          let run = reduce-run answer name t job (outcome job) z small miss (made-in z there) refl in
          let after : Leads (go_on (finished name t (outcome job) (asked_for job z)) marking) = subst Leads run leads in
          let at = asked-at z (toward (λ s. go_on (finished name t (outcome job) s) marking) (asked_for job z) (keeps-rest (outcome job)) after) in
          alike-of (reduce answer name t s) (go_on (finished name t (outcome job) (asked_for job s)) marking) (reduce answer name t z) (go_on (finished name t (outcome job) (asked_for job z)) marking)
          (reduce-run answer name t job (outcome job) s small no_hit (made-in s there_too) refl) run
          (both-finish (outcome job) refl (length z.asked) at (asked_for job s) (asked_for job z) (along-both-asked s z along) after)

      both-hit : (outs : List ObjectName) → hit_of z.store resolved_to (length t.outputs) ≡ Some outs → Alike (reduce answer name t s) (reduce answer name t z)
      both-hit outs hit =
          let h = hits z.store resolved_to (length t.outputs) outs hit in
          let same : s.store.notes resolved_to ≡ z.store.notes resolved_to = noted-some (s.store.notes resolved_to) (z.store.notes resolved_to) (x.notes resolved_to) h.bytes (along.notes resolved_to) h.there in
          let too = hit-same z.store s.store resolved_to (length t.outputs) outs hit same (are-held z.store s.store (holds s z along to) outs) in
          alike-of (reduce answer name t s) (Got outs (marked name outs s)) (reduce answer name t z) (Got outs (marked name outs z))
          (reduce-hit answer name t outs s small too) (reduce-hit answer name t outs z small hit) (refl, along-mark name outs s z along)

      by-hits : (mine others : Option (List ObjectName)) → hit_of s.store resolved_to (length t.outputs) ≡ mine → hit_of z.store resolved_to (length t.outputs) ≡ others → Alike (reduce answer name t s) (reduce answer name t z)
      by-hits mine (Some outs) is hit = both-hit outs hit
      by-hits (Some outs) None hit miss = hit-and-miss outs hit miss
      by-hits None None is miss = both-miss is miss

  keeps-reduces : (name : ObjectName) (t : Parts) → Keeps IsOnTheWay (reduce answer name t)
  keeps-reduces = keeps-reduce IsOnTheWay OnTheWay-kept OnTheWay-write OnTheWay-mark answer (OnTheWay-ask answer)

  alike-reduce : (name : ObjectName) (thunk : Parts) (values : List ObjectName) (s z : State) → Alongside s z → length values ≡ length (refs_of thunk) → AreHeld z.store values →
      Leads (reduce answer name (resolved_by thunk values) z) → Alike (reduce answer name (resolved_by thunk values) s) (reduce answer name (resolved_by thunk values) z)
  alike-reduce name thunk values s z along number there leads = by (nat_le (resolved_size (resolved_by thunk values)) max_job) refl
    where
      by : (test : Bool) → nat_le (resolved_size (resolved_by thunk values)) max_job ≡ test → Alike (reduce answer name (resolved_by thunk values) s) (reduce answer name (resolved_by thunk values) z)
      by true is =
          let t = resolved_by thunk values in
          let made = job-resolved z.store thunk values number there in
          by-hits name t made.job made.same s z along (toward (reduce answer name t) z (keeps-reduces name t) leads) (leb-true (resolved_size t) max_job is) made.there leads
          (hit_of s.store (name_of (text_of t)) (length t.outputs)) (hit_of z.store (name_of (text_of t)) (length t.outputs)) refl refl
      by false is =
          let t = resolved_by thunk values in
          let big = leb-false (resolved_size t) max_job is in
          alike-of (reduce answer name t s) (Stopped (Refused (TooBig name (resolved_size t))) s) (reduce answer name t z) (Stopped (Refused (TooBig name (resolved_size t))) z)
          (reduce-too-big answer name t s big) (reduce-too-big answer name t z big) (refl, along)

  -- ---- the whole

  module _ (budget : ℕ) where
    alike-count : (name : ObjectName) (s z : State) → Alongside s z → Leads (count_step budget name z) → Alike (count_step budget name s) (count_step budget name z)
    alike-count name s z along leads =
        let why = Refused (Spent name budget) in
        subst (λ n. Alike (go_on (check (nat_lt n budget) why s) (λ _. step)) (count_step budget name z)) (sym along.steps)
        (alike-go (check (nat_lt z.steps budget) why s) (check (nat_lt z.steps budget) why z) (λ _. step) (λ _. step) (λ _ s. OnTheWay-step s)
        (λ _. alike-check (nat_lt z.steps budget) why s z along)
        (λ _ s z _ along leads. (refl, record { steps = ap (λ n. suc n) along.steps; reduced = along.reduced; objects = along.objects; notes = along.notes; trues = along.trues; writes = along.writes }))
        leads)

    keeps-counts : (name : ObjectName) → Keeps IsOnTheWay (count_step budget name)
    keeps-counts = keeps-count IsOnTheWay OnTheWay-kept budget (λ s below. OnTheWay-step s)

    alike-entered : (name : ObjectName) (index : ℕ) (s z : State) → Alongside s z → Leads (entered budget name index z) → Alike (entered budget name index s) (entered budget name index z)
    alike-entered name index s z along leads =
        let counts : Parts → Eval Parts = λ t. count_step budget name >>= λ _. give t in
        let keeps_counts : (t : Parts) → Keeps IsOnTheWay (counts t) = λ t. keeps-then IsOnTheWay OnTheWay-kept (count_step budget name) (λ _. give t) (keeps-counts name) (λ _ s. OnTheWay-kept.same s) in
        let why = Refused (NoOutput name index) in
        let f : Parts → Eval Parts = λ t. check (nat_lt index (length t.outputs)) why >>= λ _. counts t in
        alike-go (thunk_at name s) (thunk_at name z) f f
        (λ t. keeps-then IsOnTheWay OnTheWay-kept (check (nat_lt index (length t.outputs)) why) (λ _. counts t) (keeps-check IsOnTheWay OnTheWay-kept (nat_lt index (length t.outputs)) why) (λ _. keeps_counts t))
        (alike-thunk name s z along)
        (λ t s z _ along leads. alike-go (check (nat_lt index (length t.outputs)) why s) (check (nat_lt index (length t.outputs)) why z) (λ _. counts t) (λ _. counts t) (λ _. keeps_counts t)
        (λ _. alike-check (nat_lt index (length t.outputs)) why s z along)
        (λ _ s z _ along leads. alike-go (count_step budget name s) (count_step budget name z) (λ _. give t) (λ _. give t) (λ _ s. OnTheWay-kept.same s)
        (alike-count name s z along) (λ _ s z _ along leads. (refl, along)) leads)
        leads)
        leads

    -- the other evaluation is a good one
    abbrev IsGood : State → Type 0
    IsGood z = Good answer first ⊥ (none_fit answer) z

    abbrev EndsWell : {A : Type 0} → (A → State → Type 0) → State → Ended A → Type 0
    EndsWell Q z d = Ends answer first ⊥ (none_fit answer) Q z d

    abbrev IsValue : Ref → ObjectName → State → Type 0
    IsValue r = IsValueOf answer first ⊥ (none_fit answer) r

    -- so where something is given this is known
    given : {A : Type 0} (Q : A → State → Type 0) (z : State) (d : Ended A) (y : A) (w : State) → EndsWell Q z d → d ≡ Got y w → Later answer first ⊥ (none_fit answer) z w × IsGood w × Q y w
    given Q z d y w h is = subst (λ d. EndsWell Q z d) is h

    module _ (deeper : Ref → Eval ObjectName) (keeps : (r : Ref) → Keeps IsOnTheWay (deeper r)) (deep : (r : Ref) (z : State) → IsGood z → EndsWell (IsValue r) z (deeper r z))
        (same : (r : Ref) (s z : State) → Alongside s z → IsGood z → Leads (deeper r z) → Alike (deeper r s) (deeper r z)) where
      keeps-values : (refs : List Ref) → Keeps IsOnTheWay (each deeper refs)
      keeps-values refs = keeps-each IsOnTheWay OnTheWay-kept deeper refs keeps

      alike-values : (refs : List Ref) (s z : State) → Alongside s z → IsGood z → Leads (each deeper refs z) → Alike (each deeper refs s) (each deeper refs z)
      alike-values [] s z along good leads = (refl, along)
      alike-values (r ∷ refs) s z along good leads =
          let f : ObjectName → Eval (List ObjectName) = λ y. each deeper refs >>= λ ys. give (y ∷ ys) in
          alike-go (deeper r s) (deeper r z) f f
          (λ y. keeps-then IsOnTheWay OnTheWay-kept (each deeper refs) (λ ys. give (y ∷ ys)) (keeps-values refs) (λ _ s. OnTheWay-kept.same s))
          (same r s z along good)
          (λ y s w got along leads. alike-go (each deeper refs s) (each deeper refs w) (λ ys. give (y ∷ ys)) (λ ys. give (y ∷ ys)) (λ _ s. OnTheWay-kept.same s)
          (alike-values refs s w along (given (IsValue r) z (deeper r z) y w (deep r z good) got).1)
          (λ ys s z _ along leads. (refl, along)) leads)
          leads

      alike-outputs_at : (name : ObjectName) (index : ℕ) (known : Option (List ObjectName)) (s z : State) → Alongside s z → IsGood z → Leads (outputs_at answer budget deeper name index known z) →
          Alike (outputs_at answer budget deeper name index known s) (outputs_at answer budget deeper name index known z)
      alike-outputs_at name index (Some outputs) s z along good leads = (refl, along)
      alike-outputs_at name index None s z along good leads =
          let f : Parts → Eval (List ObjectName) = λ t. each deeper (refs_of t) >>= λ values. reduce answer name (resolved_by t values) in
          alike-go (entered budget name index s) (entered budget name index z) f f
          (λ t. keeps-then IsOnTheWay OnTheWay-kept (each deeper (refs_of t)) (λ values. reduce answer name (resolved_by t values)) (keeps-values (refs_of t)) (λ values. keeps-reduces name (resolved_by t values)))
          (alike-entered name index s z along)
          (λ t s w got along leads.
          let w_good = (given (IsThunkAt answer first ⊥ (none_fit answer) name) z (entered budget name index z) t w (enters answer first ⊥ (none_fit answer) budget name index z good) got).1 in
          alike-go (each deeper (refs_of t) s) (each deeper (refs_of t) w) (λ values. reduce answer name (resolved_by t values)) (λ values. reduce answer name (resolved_by t values))
          (λ values. keeps-reduces name (resolved_by t values))
          (alike-values (refs_of t) s w along w_good)
          (λ values s v got_values along leads.
          let all = (given (AreValues answer first ⊥ (none_fit answer) (refs_of t)) w (each deeper (refs_of t) w) values v (all-values answer first ⊥ (none_fit answer) budget deeper deep (refs_of t) w w_good) got_values).2 in
          alike-reduce name t values s v along all.1 all.0 leads)
          leads)
          leads

      alike-output_of : (name : ObjectName) (index : ℕ) (s z : State) → Alongside s z → IsGood z → Leads (output_of answer budget deeper name index z) → Alike (output_of answer budget deeper name index s) (output_of answer budget deeper name index z)
      alike-output_of name index s z along good leads =
          let f : List ObjectName → Eval ObjectName = λ outputs. need (slice_get outputs index) (Refused (NoOutput name index)) in
          subst (λ known. Alike (go_on (outputs_at answer budget deeper name index known s) f) (output_of answer budget deeper name index z)) (λ i. sym along.reduced i name)
          (alike-go (outputs_at answer budget deeper name index (z.reduced name) s) (outputs_at answer budget deeper name index (z.reduced name) z) f f
          (λ outputs. keeps-need IsOnTheWay OnTheWay-kept (slice_get outputs index) (Refused (NoOutput name index)))
          (alike-outputs_at name index (z.reduced name) s z along good)
          (λ outputs s z _ along leads. alike-need (slice_get outputs index) (Refused (NoOutput name index)) s z along)
          leads)

      keeps-passes : (kind : Kind) (output : ObjectName) → Keeps IsOnTheWay (passed answer budget deeper kind output)
      keeps-passes = keeps-passed IsOnTheWay OnTheWay-kept OnTheWay-write OnTheWay-mark answer (OnTheWay-ask answer) budget (λ s below. OnTheWay-step s) deeper keeps

      alike-passed : (kind : Kind) (output : ObjectName) (s z : State) → Alongside s z → IsGood z → Leads (passed answer budget deeper kind output z) → Alike (passed answer budget deeper kind output s) (passed answer budget deeper kind output z)
      alike-passed kinds.Value output s z along good leads = (refl, along)
      alike-passed kinds.Thunk output s z along good leads =
          alike-go (count_step budget output s) (count_step budget output z) (λ _. deeper (Out output 0)) (λ _. deeper (Out output 0)) (λ _. keeps (Out output 0))
          (alike-count output s z along)
          (λ _ s w got along leads. same (Out output 0) s w along (given (Any answer first ⊥ (none_fit answer)) z (count_step budget output z) _ w (counted answer first ⊥ (none_fit answer) budget output z good) got).1 leads)
          leads

      alike-value_by : (r : Ref) (s z : State) → Alongside s z → IsGood z → Leads (value_by answer budget deeper r z) → Alike (value_by answer budget deeper r s) (value_by answer budget deeper r z)
      alike-value_by (Value name) s z along good leads = alike-value name s z along leads
      alike-value_by (Out name index) s z along good leads =
          let f : ObjectName → Eval ObjectName = λ output. passed answer budget deeper output.kind output in
          alike-go (output_of answer budget deeper name index s) (output_of answer budget deeper name index z) f f (λ output. keeps-passes output.kind output)
          (alike-output_of name index s z along good)
          (λ output s w got along leads. alike-passed output.kind output s w along
          (given (IsOutputName answer first ⊥ (none_fit answer)) z (output_of answer budget deeper name index z) output w (output-of answer first ⊥ (none_fit answer) budget deeper deep name index z good) got).1 leads)
          leads

    keeps-within : (left : ℕ) (r : Ref) → Keeps IsOnTheWay (value_within answer budget left r)
    unfolding value_within
    keeps-within zero = keeps-value_by IsOnTheWay OnTheWay-kept OnTheWay-write OnTheWay-mark answer (OnTheWay-ask answer) budget (λ s below. OnTheWay-step s) (beyond answer budget) (λ r s. OnTheWay-kept.same s)
    keeps-within (suc left) = keeps-value_by IsOnTheWay OnTheWay-kept OnTheWay-write OnTheWay-mark answer (OnTheWay-ask answer) budget (λ s below. OnTheWay-step s) (value_within answer budget left) (keeps-within left)

    alike-within : (left : ℕ) (r : Ref) (s z : State) → Alongside s z → IsGood z → Leads (value_within answer budget left r z) → Alike (value_within answer budget left r s) (value_within answer budget left r z)
    unfolding value_within
    alike-within zero = alike-value_by (beyond answer budget) (λ r s. OnTheWay-kept.same s) (λ r z good. (good, tt)) (λ r s z along good leads. (refl, along))
    alike-within (suc left) = alike-value_by (value_within answer budget left) (keeps-within left) (within answer first ⊥ (none_fit answer) budget left) (alike-within left)

    pub alike-values_of : (refs : List Ref) (s z : State) → Alongside s z → IsGood z → Leads (values_of answer budget refs z) → Alike (values_of answer budget refs s) (values_of answer budget refs z)
    unfolding value_of
    alike-values_of refs s z along good leads = alike-values (value_within answer budget budget) (keeps-within budget) (within answer first ⊥ (none_fit answer) budget budget) (alike-within budget) refs s z along good leads
