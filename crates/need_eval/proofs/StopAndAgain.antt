-- Stop and again: an evaluation over a store, and over the store with a prefix of its own writes, are both alike to the one that
-- knows no notes, and so to each other.
use Rattle.std.proofs.Common.{◌≡◌, inl, inr, ℕ, Bool, true, false, cond, List, [], ◌∷◌, Option, Some, None, refl, sym, ap, subst, ◌∙◌}
use Rattle.std.specs.Prelude.{◌⊎◌, slice_get, is_some}
use Rattle.std.specs.List.{AllByRecursion}
use Rattle.std.specs.Ordering.{eq_by_cmp}
use Rattle.std.proofs.lemmas.Option.{same_Some}
use Rattle.object_name.specs.Name.{ObjectName, name_of, name_cmp}
use Rattle.thunk_codec.specs.Outcome.{Fits}
use Rattle.thunk_codec.specs.Thunk.{IsThunk, text_of}
use Rattle.need_eval.proofs.OwnNotesAreTrue.{own-true}
use Rattle.thunk_codec.specs.declared.job.Job.{Job}
use Rattle.thunk_codec.specs.declared.job.Outcome.{Outcome}
use Rattle.thunk_codec.specs.declared.reference.Ref.{Ref}
use Rattle.blob_store.specs.Store.{Store, Write, held, after_write, written}
use Rattle.blob_store.specs.Store.Write.{Object, Note}
use Rattle.object_name.proofs.PublicLaws.{eq_by_cmp-name}
use Rattle.need_eval.specs.Eval.{State, Ended, Got, Stopped, start}
use Rattle.need_eval.specs.Evaluation.{values_of, by_function}
use Rattle.need_eval.specs.WritePrefix.{state_after}
use Rattle.need_eval.specs.MetObjects.{IsHeld, IsMet, HaveOwnNames}
use Rattle.need_eval.specs.StopAndAgain.{resolved_name, without_notes, jobs_met, IsTrueNote, TrueNotes, IsMetOrText, SameAnswer, EndAlike, EndAlikeButNotes, IsLeft, Begun, Again, MayStop, IsMetByEither, resolved}
use Rattle.need_eval.proofs.ValuesAreHeld.{AllFit, none_fit, Good, good-start, values-good}
use Rattle.need_eval.proofs.Places.{all-more, all-prefix}
use Rattle.need_eval.proofs.OneJobOfAName.{MetJob, one-job}
use Rattle.need_eval.proofs.OnTheWay.{OnTheWay-kept}
use Rattle.need_eval.proofs.RunsGoAlongside.{WrittenFor, written-true, Premises, Alongside, Leads, Alike, IsOwn, noted, alike-values_of}

module _ (outcome : Job → Outcome) (first : Store) (end : State) (p : Premises outcome first end) where
  -- a store between the first and the end: it has objects and notes of either, and its notes are true
  record Between (x : Store) : Type 0 where
    objects : (name : ObjectName) → (x.objects name ≡ first.objects name) ⊎ (x.objects name ≡ end.store.objects name)
    notes : (name : ObjectName) → (x.notes name ≡ first.notes name) ⊎ (is_some (end.store.notes name) ≡ true)
    trues : TrueNotes outcome x end.asked
    sources : (name : ObjectName) (bytes : List ℕ) → x.notes name ≡ Some bytes → (first.notes name ≡ Some bytes) ⊎ WrittenFor outcome end.asked name bytes

  between-one : (x : Store) (write : Write) → Between x → IsOwn outcome first x end p write → Between (after_write x write)
  between-one x (Object own bytes) h is = record {
    objects = λ name. by name (eq_by_cmp name_cmp name own) refl;
    notes = h.notes;
    trues = h.trues;
    sources = h.sources;
  }
    where
      by : (name : ObjectName) (test : Bool) → eq_by_cmp name_cmp name own ≡ test → (cond test (Some bytes) (x.objects name) ≡ first.objects name) ⊎ (cond test (Some bytes) (x.objects name) ≡ end.store.objects name)
      by name true same = inr (sym is ∙ ap end.store.objects (sym ((eq_by_cmp-name name own).0 same)))
      by name false differ = h.objects name
  between-one x (Note own text) h is = record {
    objects = h.objects;
    notes = λ name. by name (eq_by_cmp name_cmp name own) refl;
    trues = λ place job bytes at there. true_by place job bytes at (eq_by_cmp name_cmp (resolved_name job) own) refl there;
    sources = λ name bytes there. source_by name bytes (eq_by_cmp name_cmp name own) refl there;
  }
    where
      by : (name : ObjectName) (test : Bool) → eq_by_cmp name_cmp name own ≡ test → (cond test (Some text) (x.notes name) ≡ first.notes name) ⊎ (is_some (end.store.notes name) ≡ true)
      by name true same = inr (ap (λ name. is_some (end.store.notes name)) ((eq_by_cmp-name name own).0 same) ∙ is.0)
      by name false differ = h.notes name

      true_by : (place : ℕ) (job : Job) (bytes : List ℕ) → slice_get end.asked place ≡ Some job → (test : Bool) → eq_by_cmp name_cmp (resolved_name job) own ≡ test →
          cond test (Some text) (x.notes (resolved_name job)) ≡ Some bytes → IsTrueNote outcome job bytes
      true_by place job bytes at true same there = subst (IsTrueNote outcome job) (same_Some text bytes there) (written-true outcome first x end p own text is.1 place job at ((eq_by_cmp-name (resolved_name job) own).0 same))
      true_by place job bytes at false differ there = h.trues place job bytes at there

      source_by : (name : ObjectName) (bytes : List ℕ) (test : Bool) → eq_by_cmp name_cmp name own ≡ test → cond test (Some text) (x.notes name) ≡ Some bytes →
          (first.notes name ≡ Some bytes) ⊎ WrittenFor outcome end.asked name bytes
      source_by name bytes true same there =
          inr (subst (λ (name : ObjectName). WrittenFor outcome end.asked name bytes) (sym ((eq_by_cmp-name name own).0 same)) (subst (WrittenFor outcome end.asked own) (same_Some text bytes there) is.1))
      source_by name bytes false differ there = h.sources name bytes there

  between : (x : Store) (made : List Write) → Between x → AllByRecursion (IsOwn outcome first x end p) made → Between (written x made)
  between x [] h all = h
  between x (write ∷ made) h all = between (after_write x write) made (between-one x write h all.0) all.1

  -- from such a store the other evaluation goes alongside
  alongside : (x : Store) → Between x → Alongside outcome first x end p (start x) (start (without_notes first))
  alongside x h = record { steps = refl; reduced = refl; objects = h.objects; notes = λ name. refl; trues = h.trues; writes = tt }

  -- what two evaluations that are alike to the one that comes to the end are to each other
  record Ending {A : Type 0} (x : Store) (e : Ended A) (d : Ended A) : Type 0 where
    answer : SameAnswer e d
    steps : (state_after e).steps ≡ end.steps
    objects : (name : ObjectName) → (state_after e).store.objects name ≡ end.store.objects name
    notes : (name : ObjectName) → (state_after e).store.notes name ≡ noted (end.store.notes name) (x.notes name)
    writes : AllByRecursion (IsOwn outcome first x end p) (state_after e).writes

  one-of : {A : Type 0} (a b : A) → ((a ≡ b) ⊎ (a ≡ b)) → a ≡ b
  one-of a b (inl same) = same
  one-of a b (inr same) = same

  ending-of : {A : Type 0} (x : Store) (e d : Ended A) (s : State) → SameAnswer e d → state_after e ≡ s → Alongside outcome first x end p s end → Ending x e d
  ending-of x e d s same is along =
      let here = subst (λ s. Alongside outcome first x end p s end) (sym is) along in
      record {
        answer = same;
        steps = here.steps;
        objects = λ name. one-of ((state_after e).store.objects name) (end.store.objects name) (here.objects name);
        notes = here.notes;
        writes = here.writes;
      }

  ending : {A : Type 0} (x : Store) (e d : Ended A) → state_after d ≡ end → Alike outcome first x end p e d → Ending x e d
  ending x (Got y s) (Got w z) is h = ending-of x (Got y s) (Got w z) s h.0 refl (subst (Alongside outcome first x end p s) is h.1)
  ending x (Got y s) (Stopped why z) is h = absurd h
  ending x (Stopped why s) (Got w z) is h = absurd h
  ending x (Stopped why s) (Stopped other z) is h = ending-of x (Stopped why s) (Stopped other z) s h.0 refl (subst (Alongside outcome first x end p s) is h.1)

same-answers : {A : Type 0} (e f d : Ended A) → SameAnswer e d → SameAnswer f d → SameAnswer e f
same-answers (Got x s) (Got y t) (Got z u) h k = h ∙ sym k
same-answers (Got x s) (Got y t) (Stopped why u) h k = absurd h
same-answers (Got x s) (Stopped other t) (Got z u) h k = k
same-answers (Got x s) (Stopped other t) (Stopped why u) h k = h
same-answers (Stopped other s) (Got y t) (Got z u) h k = h
same-answers (Stopped other s) (Got y t) (Stopped why u) h k = k
same-answers (Stopped other s) (Stopped last t) (Got z u) h k = absurd h
same-answers (Stopped other s) (Stopped last t) (Stopped why u) h k = h ∙ sym k

-- where a note is there at the end, the one from before doesn't matter
noted-alike : (z a b : Option (List ℕ)) → ((a ≡ b) ⊎ (is_some z ≡ true)) → noted z a ≡ noted z b
noted-alike (Some text) a b h = refl
noted-alike None a b (inl same) = same
noted-alike None a b (inr some) = absurd (cc some)

leads-itself : (outcome : Job → Outcome) (first x : Store) {A : Type 0} (d : Ended A) (p : Premises outcome first (state_after d)) → Leads outcome first x (state_after d) p d
leads-itself outcome first x (Got y s) p = OnTheWay-kept.same s
leads-itself outcome first x (Stopped why s) p = refl

-- what is held at the end is met, and the jobs met keep the rules, of objects that are met
module _ (outcome : Job → Outcome) (fits : (job : Job) → Fits job (outcome job)) (budget : ℕ) (refs : List Ref) (first : Store) where
  abbrev jobs : List Job
  jobs = jobs_met outcome budget refs first

  abbrev last_of : State
  last_of = state_after (values_of (by_function outcome) budget refs (start (without_notes first)))

  all_fit : Unit {0} → AllFit (by_function outcome)
  all_fit _ place job o is = subst (Fits job) (same_Some (outcome job) o is) (fits job)

  good-end : Good (by_function outcome) (without_notes first) (Unit {0}) all_fit last_of
  good-end =
      values-good (by_function outcome) (without_notes first) (Unit {0}) all_fit budget refs (start (without_notes first))
      (good-start (by_function outcome) (without_notes first) (Unit {0}) all_fit (λ name. None))

  met : (bytes : List ℕ) → held last_of.store.objects (name_of bytes) ≡ Some bytes → IsMet (by_function outcome) first jobs bytes
  met bytes is = good-end.met bytes is

  jobs-fair : (i : ℕ) (job : Job) → slice_get jobs i ≡ Some job → IsThunk (resolved job) × MetJob (IsMetOrText outcome first jobs) job
  jobs-fair i job at =
      let fair = good-end.jobs tt i job at in (
        fair.0,
        (
          inl (met job.function fair.1.0),
          all-more (λ input. IsHeld last_of.store input.1) (λ input. IsMetOrText outcome first jobs input.1) (λ input is. inl (met input.1 is)) job.inputs fair.1.1,
        ),
      )

  -- the resolved text of one is met
  text-met : (i : ℕ) (job : Job) → slice_get jobs i ≡ Some job → IsMetOrText outcome first jobs (text_of (resolved job))
  text-met i job at = inr (record { place = i; job = job; is_met = at; text = refl })

  premises : HaveOwnNames (IsMetOrText outcome first jobs) → Premises outcome first last_of
  premises own_names = record {
    fits = fits;
    met = met;
    own_names = λ a b ma mb. own_names a b (inl ma) (inl mb);
    one_text = λ i j a b at_a at_b is.
        let fa = jobs-fair i a at_a in
        let fb = jobs-fair j b at_b in
        one-job (IsMetOrText outcome first jobs) own_names a b fa.1 fb.1 fa.0 fb.0 (text-met i a at_a) (text-met j b at_b) is;
  }

module _ (outcome : Job → Outcome) (fits : (job : Job) → Fits job (outcome job)) (budget : ℕ) (refs : List Ref) (first : Store)
    (notes : TrueNotes outcome first (jobs_met outcome budget refs first)) (own_names : HaveOwnNames (IsMetOrText outcome first (jobs_met outcome budget refs first))) where
  answer : ℕ → Job → Option Outcome
  answer = by_function outcome

  abbrev evaluated : Store → Ended (List ObjectName)
  evaluated store = values_of (by_function outcome) budget refs (start store)

  abbrev last : State
  last = state_after (evaluated (without_notes first))

  all : Premises outcome first last
  all = premises outcome fits budget refs first own_names

  good : Good (by_function outcome) first ⊥ (none_fit (by_function outcome)) (start (without_notes first))
  good = good-start (by_function outcome) first ⊥ (none_fit (by_function outcome)) (λ name. None)

  from : Between outcome first last all first
  from = record { objects = λ name. inl refl; notes = λ name. inl refl; trues = notes; sources = λ name bytes there. inl there }

  over : (x : Store) → Between outcome first last all x → Ending outcome first last all x (evaluated x) (evaluated (without_notes first))
  over x between =
      ending outcome first last all x (evaluated x) (evaluated (without_notes first)) refl
      (alike-values_of outcome first x last all budget refs (start x) (start (without_notes first)) (alongside outcome first last all x between) good (leads-itself outcome first x (evaluated (without_notes first)) all))

  between-left : (now : Store) → IsLeft outcome budget refs first now → Between outcome first last all now
  between-left now (Begun other same) = subst (Between outcome first last all) (sym same) from
  between-left now (Again old other left part) =
      let mid = between-left old left in
      let prefix = all-prefix (IsOwn outcome first old last all) part.prefix part.others (subst (AllByRecursion (IsOwn outcome first old last all)) part.list (over old mid).writes) in
      subst (Between outcome first last all) (sym part.kept) (between outcome first last all old part.prefix mid prefix)

  pub again : (now : Store) → IsLeft outcome budget refs first now → EndAlike (evaluated now) (evaluated first)
  again now left =
      let one = over first from in
      let mid = between-left now left in
      let two = over now mid in
      record {
        answer = same-answers (evaluated now) (evaluated first) (evaluated (without_notes first)) two.answer one.answer;
        steps = two.steps ∙ sym one.steps;
        store = λ i. record {
          objects = λ name. (two.objects name ∙ sym (one.objects name)) i;
          notes = λ name. (two.notes name ∙ noted-alike (last.store.notes name) (now.notes name) (first.notes name) (mid.notes name) ∙ sym (one.notes name)) i;
        };
      }

  pub unseen : EndAlikeButNotes (evaluated first) (evaluated (without_notes first))
  unseen = let one = over first from in record { answer = one.answer; steps = one.steps; objects = λ i name. one.objects name i }

pub stop-and-again : (outcome : Job → Outcome) (budget : ℕ) (refs : List Ref) (first now : Store) → MayStop outcome budget refs first → IsLeft outcome budget refs first now →
    EndAlike (values_of (by_function outcome) budget refs (start now)) (values_of (by_function outcome) budget refs (start first))
stop-and-again outcome budget refs first now may left = again outcome may.fits budget refs first may.notes may.names now left

pub notes-unseen : (outcome : Job → Outcome) (budget : ℕ) (refs : List Ref) (first : Store) → MayStop outcome budget refs first →
    EndAlikeButNotes (values_of (by_function outcome) budget refs (start first)) (values_of (by_function outcome) budget refs (start (without_notes first)))
notes-unseen outcome budget refs first may = unseen outcome may.fits budget refs first may.notes may.names

-- two jobs of two evaluations, of which no two objects met have one name
either-job : (A B : List ℕ → Type 0) (a b : Job) → MetJob A a → MetJob B b → MetJob (λ bytes. A bytes ⊎ B bytes) a × MetJob (λ bytes. A bytes ⊎ B bytes) b
either-job A B a b ma mb =
    ((inl ma.0, all-more (λ i. A i.1) (λ i. A i.1 ⊎ B i.1) (λ i h. inl h) a.inputs ma.1), (inr mb.0, all-more (λ i. B i.1) (λ i. A i.1 ⊎ B i.1) (λ i h. inr h) b.inputs mb.1))

pub own-notes : (outcome : Job → Outcome) (budget : ℕ) (refs : List Ref) (first now : Store) → MayStop outcome budget refs first → IsLeft outcome budget refs first now →
    (later_budget : ℕ) (later_refs : List Ref) → HaveOwnNames (IsMetByEither outcome budget refs first later_budget later_refs now) →
    TrueNotes outcome first (jobs_met outcome later_budget later_refs now) → TrueNotes outcome now (jobs_met outcome later_budget later_refs now)
own-notes outcome budget refs first now may left later_budget later_refs own_names before place job bytes at there =
    by ((between-left outcome may.fits budget refs first may.notes may.names now left).sources (resolved_name job) bytes there)
  where
    by : ((first.notes (resolved_name job) ≡ Some bytes) ⊎ WrittenFor outcome (jobs_met outcome budget refs first) (resolved_name job) bytes) → IsTrueNote outcome job bytes
    by (inl was) = before place job bytes at was
    by (inr w) =
        let fa = jobs-fair outcome may.fits budget refs first w.place w.job w.at in
        let fb = jobs-fair outcome may.fits later_budget later_refs now place job at in
        let A = IsMetOrText outcome first (jobs_met outcome budget refs first) in
        let B = IsMetOrText outcome now (jobs_met outcome later_budget later_refs now) in
        let met = either-job A B w.job job fa.1 fb.1 in
        let same : w.job ≡ job = one-job (λ bytes. A bytes ⊎ B bytes) own_names w.job job met.0 met.1 fa.0 fb.0
        (inl (text-met outcome may.fits budget refs first w.place w.job w.at)) (inr (text-met outcome may.fits later_budget later_refs now place job at)) w.named in
        subst (λ (job : Job). IsTrueNote outcome job bytes) same
        (subst (IsTrueNote outcome w.job) (sym w.is_text) (own-true outcome may.fits w.job (resolved_name job) w.outputs w.named w.done))
