-- The reduction of a thunk of a ledger, where its values are there.
use Rattle.std.proofs.Common.{◌≡◌, ◌≤◌, ◌⊎◌, inl, inr, ℕ, Bool, true, false, cond, List, [], ◌∷◌, ◌++◌, Option, Some, None, length, map, refl, sym, ap, subst, ◌∙◌, append-nil, le-leb}
use Rattle.std.specs.Prelude.{is_some, nat_le, eqb}
use Rattle.std.specs.List.{list_all, AllByRecursion}
use Rattle.std.specs.Ordering.{eq_by_cmp}
use Rattle.std.proofs.lemmas.Option.{same_Some}
use Rattle.std.proofs.lemmas.Bool.{eqb-true}
use Rattle.object_name.specs.Name.{ObjectName, name_of, name_cmp}
use Rattle.thunk_codec.specs.declared.job.Job.{Job}
use Rattle.thunk_codec.specs.declared.job.Outcome.{Outcome}
use Rattle.thunk_codec.specs.Thunk.{text_of}
use Rattle.thunk_codec.specs.Job.{job_size, resolved_size, max_job}
use Rattle.text_lines.specs.Maybe.{bind_some, test_some}
use Rattle.blob_store.specs.Store.{Contents, Store, Write, held, after_write, written, storing, other_held}
use Rattle.object_name.proofs.PublicLaws.{eq_by_cmp-name, name_cmp-same}
use Rattle.reduction_cache.specs.Note.{NoteOf, note_text}
use Rattle.reduction_cache.specs.Reading.{note_of}
use Rattle.reduction_cache.specs.Hit.{note_write, hit_of, is_held}
use Rattle.need_eval.specs.declared.fault.Refusal.TheVariants.{TooBig, Missing}
use Rattle.need_eval.specs.Eval.{State, Refused, Ended, Got, Eval, go_on, ◌>>=◌, give, check, need, each, make_write, mark}
use Rattle.need_eval.specs.Evaluation.{object, input_object, job_of, store_one, no_clash, finished, ask, outputs_of, reduce, by_function}
use Rattle.need_eval.specs.WriteContracts.{after_writes}
use Rattle.need_eval.proofs.PublicLaws.{job_of-gives, input_object_gives, job-length, after_writes-both}
use Rattle.build_law.proofs.Ledger.{Entry, Among, Fair, resolved, resolved_name, value_input}
use Rattle.build_law.proofs.ValuesStayHeld.{Reduced, HoldsAll, More, Good, good-value, good-note, marked, more-marked, stores, same-name}
use Rattle.build_law.proofs.ThunksOfLedger.{Alone}

-- what was known is known still, and of the thunk too
pub good-marked : (outcome : Job → Outcome) (objects : Contents) (L : List Entry) → Alone outcome L → (store : Store) (reduced : Reduced) (e : Entry) → Among e L →
    held store.objects (name_of e.value) ≡ Some e.value → Good objects L store reduced → Good objects L store (marked e.name (name_of e.value ∷ []) reduced)
good-marked outcome objects L alone store reduced e among there good = record {
  holds = good.holds;
  known = λ other in_it outs is. by other in_it outs (same-name e.name other.name) is;
  notes = good.notes;
  free = good.free;
}
  where
    by : (other : Entry) → Among other L → (outs : List ObjectName) → ((e.name ≡ other.name) ⊎ (e.name ≡ other.name → ⊥)) → marked e.name (name_of e.value ∷ []) reduced other.name ≡ Some outs →
        (outs ≡ name_of other.value ∷ []) × (held store.objects (name_of other.value) ≡ Some other.value)
    by other in_it outs (inl same) is =
        let value : e.value ≡ other.value = alone.same_name e other among in_it same in
        let own : marked e.name (name_of e.value ∷ []) reduced other.name ≡ Some (name_of e.value ∷ []) =
        ap (λ test. cond test (Some (name_of e.value ∷ [])) (reduced other.name)) ((eq_by_cmp-name e.name other.name).1 same) in (
          same_Some outs (name_of e.value ∷ []) (sym is ∙ own) ∙ ap (λ b. name_of b ∷ []) value,
          subst (λ (b : List ℕ). held store.objects (name_of b) ≡ Some b) value there,
        )
    by other in_it outs (inr differ) is =
        good.known other in_it outs (sym (ap (λ test. cond test (Some (name_of e.value ∷ [])) (reduced other.name)) (other_name other differ)) ∙ is)
      where
        other_name : (other : Entry) → (e.name ≡ other.name → ⊥) → eq_by_cmp name_cmp e.name other.name ≡ false
        other_name other differ = untrue (eq_by_cmp name_cmp e.name other.name) refl
          where
            untrue : (test : Bool) → eq_by_cmp name_cmp e.name other.name ≡ test → eq_by_cmp name_cmp e.name other.name ≡ false
            untrue true is = absurd (differ ((eq_by_cmp-name e.name other.name).0 is))
            untrue false is = is

-- ---- the job

abbrev pub Held : Contents → List ℕ → Type 0
Held objects bytes = held objects (name_of bytes) ≡ Some bytes

abbrev pub HeldInputs : Contents → List (List ℕ × List ℕ) → Type 0
HeldInputs objects inputs = AllByRecursion (λ input. Held objects input.1) inputs

object-gives : (bytes : List ℕ) (s : State) → Held s.store.objects bytes → object (name_of bytes) s ≡ Got bytes s
object-gives bytes s there = ap (λ found. need found (Refused (Missing (name_of bytes))) s) there

inputs-give : (inputs : List (List ℕ × List ℕ)) (s : State) → HeldInputs s.store.objects inputs → each input_object (map value_input inputs) s ≡ Got inputs s
inputs-give [] s h = refl
inputs-give (i ∷ is) s h =
    ap (λ e. go_on e (λ y. each input_object (map value_input is) >>= λ ys. give (y ∷ ys))) (input_object_gives (value_input i) s i.0 i.1 refl (object-gives i.1 s h.0))
    ∙ ap (λ e. go_on e (λ ys. give (i ∷ ys))) (inputs-give is s h.1)

pub job-is : (job : Job) (s : State) → Held s.store.objects job.function → HeldInputs s.store.objects job.inputs → job_of (resolved job) s ≡ Got job s
job-is job s function inputs = job_of-gives (resolved job) s job (object-gives job.function s function) (inputs-give job.inputs s inputs) refl refl refl

-- ---- one output

record Makes (writes : List Write) (s : State) : Type 0 where
  given : List (Unit {0})
  got : each make_write writes s ≡ Got given (after_writes s writes)

makes : (writes : List Write) (s : State) → Makes writes s
makes [] s = record { given = []; got = λ i. Got [] (record s { writes = sym (append-nil s.writes) i }) }
makes (write ∷ writes) s =
    let next = record s { store = after_write s.store write; writes = s.writes ++ write ∷ [] } in
    let rest = makes writes next in
    record {
      given = tt ∷ rest.given;
      got = ap (λ e. go_on e (λ given. give (tt ∷ given))) rest.got ∙ λ i. Got (tt ∷ rest.given) (after_writes-both s (write ∷ []) writes i);
    }

store_one-is : (bytes : List ℕ) (s : State) → other_held s.store bytes ≡ None → store_one bytes s ≡ Got (name_of bytes) (after_writes s (storing s.store bytes))
store_one-is bytes s none =
    ap (λ found. go_on (no_clash bytes found s) (λ _. each make_write (storing s.store bytes) >>= λ _. give (name_of bytes))) none
    ∙ ap (λ e. go_on e (λ _. give (name_of bytes))) (makes (storing s.store bytes) s).got

-- ---- what a note says

record Hits (store : Store) (name : ObjectName) (count : ℕ) (outs : List ObjectName) : Type 0 where
  bytes : List ℕ
  note : NoteOf
  there : store.notes name ≡ Some bytes
  read : note_of bytes ≡ Some note
  named : note.resolved ≡ name
  number : length note.outputs ≡ count
  held : list_all (is_held store) note.outputs ≡ true
  outputs : note.outputs ≡ outs

hits : (store : Store) (name : ObjectName) (count : ℕ) (outs : List ObjectName) → hit_of store name count ≡ Some outs → Hits store name count outs
unfolding hit_of
hits store name count outs is =
    let a = bind_some (store.notes name) _ outs is in
    let b = bind_some (note_of a.0) _ outs a.2 in
    let c = test_some (eq_by_cmp name_cmp b.0.resolved name) _ outs b.2 in
    let d = test_some (eqb (length b.0.outputs) count) _ outs c.1 in
    let e = test_some (list_all (is_held store) b.0.outputs) (Some b.0.outputs) outs d.1 in
    record {
      bytes = a.0;
      note = b.0;
      there = a.1;
      read = b.1;
      named = (eq_by_cmp-name b.0.resolved name).0 c.0;
      number = eqb-true (length b.0.outputs) count d.0;
      held = e.0;
      outputs = same_Some b.0.outputs outs e.1;
    }

-- ---- the reduction

pub record Reduces (objects : Contents) (L : List Entry) (e : Entry) (s : State) (m : Ended (List ObjectName)) : Type 0 where
  pub after : State
  pub got : m ≡ Got (name_of e.value ∷ []) after
  pub good : Good objects L after.store after.reduced
  pub more : More s.reduced after.reduced
  pub done : is_some (after.reduced e.name) ≡ true
  pub steps : after.steps ≡ s.steps
  pub holds : HoldsAll s.store.objects after.store.objects
  pub there : held after.store.objects (name_of e.value) ≡ Some e.value

module _ (outcome : Job → Outcome) (objects : Contents) (L : List Entry) (fair : Fair L) (alone : Alone outcome L) (e : Entry) (among : Among e L)
    (reads : note_of (note_text (record { resolved = resolved_name e.job; outputs = name_of e.value ∷ [] })) ≡ Some (record { resolved = resolved_name e.job; outputs = name_of e.value ∷ [] })) where
  abbrev outs : List ObjectName
  outs = name_of e.value ∷ []

  -- the state after a hit, and after a job
  abbrev after_hit : State → State
  after_hit s = record s { reduced = marked e.name outs s.reduced }

  abbrev after_job : State → State
  after_job s = record s {
    store = after_write (written s.store (storing s.store e.value)) (note_write (resolved_name e.job) outs);
    writes = (s.writes ++ storing s.store e.value) ++ note_write (resolved_name e.job) outs ∷ [];
    asked = s.asked ++ e.job ∷ [];
    reduced = marked e.name outs s.reduced;
  }

  done-marked : (reduced : Reduced) → is_some (marked e.name outs reduced e.name) ≡ true
  done-marked reduced = ap (λ test. is_some (cond test (Some outs) (reduced e.name))) (name_cmp-same e.name)

  abbrev then_mark : List ObjectName → Eval (List ObjectName)
  then_mark outputs = mark e.name outputs >>= λ _. give outputs

  hit-gives : (s : State) → Good objects L s.store s.reduced → (found : List ObjectName) → hit_of s.store (resolved_name e.job) (length e.job.outputs) ≡ Some found →
      (found ≡ outs) × Held s.store.objects e.value
  hit-gives s good found is =
      let h = hits s.store (resolved_name e.job) (length e.job.outputs) found is in
      let one : length h.note.outputs ≡ 1 = h.number ∙ ap length (alone.one e among) in
      let said : h.note.outputs ≡ outs = good.notes e among h.bytes h.note h.there h.read h.named one in
      let there : list_all (is_held s.store) outs ≡ true = ap (list_all (is_held s.store)) (sym said) ∙ h.held in
      (sym h.outputs ∙ said, by (held s.store.objects (name_of e.value)) refl there)
    where
      by : (there : Option (List ℕ)) → held s.store.objects (name_of e.value) ≡ there → list_all (λ _. is_some there) outs ≡ true → Held s.store.objects e.value
      by None is all = absurd (cc all)
      by (Some bytes) is all = is ∙ ap (λ b. Some b) (good.free e among bytes is)

  by_hit : (s : State) → Good objects L s.store s.reduced → Held s.store.objects e.job.function → HeldInputs s.store.objects e.job.inputs →
      (found : Option (List ObjectName)) → hit_of s.store (resolved_name e.job) (length e.job.outputs) ≡ found →
      Reduces objects L e s (go_on (outputs_of (by_function outcome) e.name (resolved e.job) found s) then_mark)
  by_hit s good function inputs (Some found) is =
      let h = hit-gives s good found is in
      record {
        after = after_hit s;
        got = ap (λ outs. then_mark outs s) h.0;
        good = good-marked outcome objects L alone s.store s.reduced e among h.1 good;
        more = more-marked e.name outs s.reduced;
        done = done-marked s.reduced;
        steps = refl;
        holds = λ name bytes was. was;
        there = h.1;
      }
  by_hit s good function inputs None is =
      let one = stores s.store e.value (good.free e among) in
      let valued = good-value objects L fair s.store s.reduced e among good in
      let noted = good-note objects L fair outcome (written s.store (storing s.store e.value)) s.reduced e among reads alone.same_job valued in
      record {
        after = after_job s;
        got =
            ap (λ m. go_on (go_on m (λ job. ask (by_function outcome) (text_of (resolved e.job)) job >>= λ o. finished e.name (resolved e.job) o)) then_mark) (job-is e.job s function inputs)
            ∙ ap (λ o. go_on (finished e.name (resolved e.job) o (record s { asked = s.asked ++ e.job ∷ [] })) then_mark) (alone.does e among)
            ∙ ap (λ m. go_on (go_on (go_on m (λ y. give {A = List ObjectName} [] >>= λ ys. give (y ∷ ys))) (λ outputs. make_write (note_write (name_of (text_of (resolved e.job))) outputs) >>= λ _. give outputs)) then_mark)
            (store_one-is e.value (record s { asked = s.asked ++ e.job ∷ [] }) one.none);
        good = good-marked outcome objects L alone (after_job s).store s.reduced e among one.there noted;
        more = more-marked e.name outs s.reduced;
        done = done-marked s.reduced;
        steps = refl;
        holds = one.holds;
        there = one.there;
      }

  pub reduces : (s : State) → Good objects L s.store s.reduced → Held s.store.objects e.job.function → HeldInputs s.store.objects e.job.inputs →
      Reduces objects L e s (reduce (by_function outcome) e.name (resolved e.job) s)
  unfolding reduce
  reduces s good function inputs =
      let size : job_size e.job ≡ resolved_size (resolved e.job) = job-length (resolved e.job) s s e.job (job-is e.job s function inputs) in
      let small : nat_le (resolved_size (resolved e.job)) max_job ≡ true = le-leb _ _ (subst (λ n. n ≤ max_job) size (fair.small e among)) in
      subst (λ (test : Bool). Reduces objects L e s (go_on (check test (Refused (TooBig e.name (resolved_size (resolved e.job)))) s)
      (λ _ s. go_on (outputs_of (by_function outcome) e.name (resolved e.job) (hit_of s.store (resolved_name e.job) (length e.job.outputs)) s) then_mark)))
      (sym small)
      (by_hit s good function inputs (hit_of s.store (resolved_name e.job) (length e.job.outputs)) refl)
