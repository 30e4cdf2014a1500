-- Evaluation by need gives what the thunks of a ledger denote, with no more steps than there are thunks.
use Rattle.std.proofs.Common.{◌≡◌, ◌≤◌, ◌<◌, inl, inr, ℕ, zero, suc, ◌+◌, Bool, true, false, cond, List, [], ◌∷◌, Option, Some, None, length, map, refl, sym, ap, subst, ◌∙◌, arith, lt-ltb, lit≤}
use Rattle.std.specs.Prelude.{is_some, nat_lt, slice_get}
use Rattle.std.specs.List.{AllByRecursion}
use Rattle.std.specs.Ordering.{eq_by_cmp}
use Rattle.std.proofs.lemmas.Option.{same_Some, none-some}
use Rattle.object_name.specs.declared.kind.Kind.TheVariants as kinds
use Rattle.object_name.specs.Kind.{kind_of}
use Rattle.object_name.specs.Name.{ObjectName, name_of, name_cmp}
use Rattle.thunk_codec.specs.declared.job.Job.{Job}
use Rattle.thunk_codec.specs.declared.reference.Ref.{Ref}
use Rattle.thunk_codec.specs.declared.reference.Ref.TheVariants.{Value, Out}
use Rattle.thunk_codec.specs.declared.job.Outcome.{Outcome}
use Rattle.thunk_codec.specs.Thunk.{Parts, text_of}
use Rattle.thunk_codec.specs.Reading.{thunk_of}
use Rattle.thunk_codec.specs.Resolved.{refs_of, resolved_by, with_values}
use Rattle.blob_store.specs.Store.{Contents, held}
use Rattle.object_name.proofs.PublicLaws.{eq_by_cmp-name}
use Rattle.reduction_cache.specs.Note.{note_text}
use Rattle.reduction_cache.specs.Reading.{note_of}
use Rattle.reduction_cache.proofs.PublicLaws.{text-note_of}
use Rattle.need_eval.specs.declared.fault.Refusal.TheVariants.{Missing, BadThunk, NoOutput, Spent}
use Rattle.need_eval.specs.Eval.{State, Refused, Ended, Got, Eval, go_on, ◌>>=◌, give, check, need, each, step}
use Rattle.need_eval.specs.Evaluation.{entered, count_step, outputs_at, passed, value_of, reduce, by_function}
use Rattle.need_eval.proofs.PublicLaws.{value_of-is, held-named}
use Rattle.build_plan.specs.Symbolic.{one_output}
use Rattle.build_law.proofs.Ledger.{Entry, valued, denoted, AreInputs, IsJob, IsEntry, IsLedger, Among, Fair, resolved, resolved_name, value_input, left, unmarked}
use Rattle.build_law.proofs.ValuesStayHeld.{HoldsAll, More, Good, left-more}
use Rattle.build_law.proofs.ThunksOfLedger.{Alone}
use Rattle.build_law.proofs.ThunkReduces.{Held, HeldInputs, reduces}

-- the kind of a thunk's text
pub text-kind : (t : Parts) → kind_of (text_of t) ≡ kinds.Thunk
unfolding text_of
text-kind t = refl

note-reads : (L : List Entry) → Fair L → (e : Entry) → Among e L →
    note_of (note_text (record { resolved = resolved_name e.job; outputs = name_of e.value ∷ [] })) ≡ Some (record { resolved = resolved_name e.job; outputs = name_of e.value ∷ [] })
note-reads L fair e among = text-note_of _ _ (record {
  rules = record {
    resolved = fair.resolved_named e among;
    kind = text-kind (resolved e.job);
    outputs = (fair.named e among, tt);
    some_output = lit≤ tt;
    few_outputs = lit≤ tt;
  };
  text = refl;
})

-- ---- what a thunk's REFs denote, in order

abbrev pub AreValues : (Ref → Option (List ℕ)) → List Ref → List (List ℕ) → Type 0
AreValues value [] [] = Unit {0}
AreValues value [] (b ∷ bs) = ⊥
AreValues value (r ∷ rs) [] = ⊥
AreValues value (r ∷ rs) (b ∷ bs) = (value r ≡ Some b) × AreValues value rs bs

abbrev job_values : Job → List (List ℕ)
job_values job = job.function ∷ map (λ input. input.1) job.inputs

input-values : (value : Ref → Option (List ℕ)) (inputs : List (List ℕ × Ref)) (read : List (List ℕ × List ℕ)) → AreInputs value inputs read → AreValues value (map (λ i. i.1) inputs) (map (λ i. i.1) read)
input-values value [] [] h = tt
input-values value [] (j ∷ js) h = h
input-values value (i ∷ is) [] h = h
input-values value (i ∷ is) (j ∷ js) h = (h.1, input-values value is js h.2)

job-values : (value : Ref → Option (List ℕ)) (t : Parts) (job : Job) → IsJob value t job → AreValues value (refs_of t) (job_values job)
job-values value t job h = (h.function, input-values value t.inputs job.inputs h.inputs)

with-values : (value : Ref → Option (List ℕ)) (inputs : List (List ℕ × Ref)) (read : List (List ℕ × List ℕ)) → AreInputs value inputs read → with_values inputs (map name_of (map (λ i. i.1) read)) ≡ map value_input read
with-values value [] [] h = refl
with-values value [] (j ∷ js) h = absurd h
with-values value (i ∷ is) [] h = absurd h
with-values value (i ∷ is) (j ∷ js) h = λ k. (h.0 k, Value (name_of j.1)) ∷ with-values value is js h.2 k

resolved-is : (value : Ref → Option (List ℕ)) (t : Parts) (job : Job) → IsJob value t job → resolved_by t (map name_of (job_values job)) ≡ resolved job
resolved-is value t job h = λ k. record {
  function = Value (name_of job.function);
  args = h.args k;
  envs = h.envs k;
  inputs = with-values value t.inputs job.inputs h.inputs k;
  outputs = h.outputs k;
}

abbrev pub HeldAll : Contents → List (List ℕ) → Type 0
HeldAll objects bs = AllByRecursion (Held objects) bs

hold-all : (old now : Contents) → HoldsAll old now → (bs : List (List ℕ)) → HeldAll old bs → HeldAll now bs
hold-all old now holds [] h = tt
hold-all old now holds (b ∷ bs) h = (holds (name_of b) b h.0, hold-all old now holds bs h.1)

held-inputs : (objects : Contents) (inputs : List (List ℕ × List ℕ)) → HeldAll objects (map (λ i. i.1) inputs) → HeldInputs objects inputs
held-inputs objects [] h = tt
held-inputs objects (i ∷ is) h = (h.0, held-inputs objects is h.1)

-- ---- what came out

module _ (outcome : Job → Outcome) (budget : ℕ) (objects : Contents) (whole : List Entry) (fair : Fair whole) (alone : Alone outcome whole) where
  abbrev answer : ℕ → Job → Option Outcome
  answer = by_function outcome

  abbrev value : Ref → Eval ObjectName
  value = value_of answer budget

  abbrev IsGood : State → Type 0
  IsGood s = Good objects whole s.store s.reduced

  pub record Came (L : List Entry) (b : List ℕ) (s : State) (m : Ended ObjectName) : Type 0 where
    pub after : State
    pub got : m ≡ Got (name_of b) after
    pub good : IsGood after
    pub more : More s.reduced after.reduced
    pub steps : after.steps + left after.reduced L ≤ s.steps + left s.reduced L
    pub holds : HoldsAll s.store.objects after.store.objects
    pub there : Held after.store.objects b

  pub record CameAll (L : List Entry) (bs : List (List ℕ)) (s : State) (m : Ended (List ObjectName)) : Type 0 where
    pub after : State
    pub got : m ≡ Got (map name_of bs) after
    pub good : IsGood after
    pub more : More s.reduced after.reduced
    pub steps : after.steps + left after.reduced L ≤ s.steps + left s.reduced L
    pub holds : HoldsAll s.store.objects after.store.objects
    pub there : HeldAll after.store.objects bs

  abbrev Gives : List Entry → Type 0
  Gives L = (r : Ref) (b : List ℕ) → denoted objects L r ≡ Some b → (s : State) → IsGood s → s.steps + left s.reduced L ≤ budget → Came L b s (value r s)

  pub came-all : (L : List Entry) → Gives L → (refs : List Ref) (bs : List (List ℕ)) → AreValues (denoted objects L) refs bs → (s : State) → IsGood s → s.steps + left s.reduced L ≤ budget → CameAll L bs s (each value refs s)
  came-all L gives [] [] h s good fits = record { after = s; got = refl; good = good; more = λ name was. was; steps = omega arith; holds = λ name bytes was. was; there = tt }
  came-all L gives [] (b ∷ bs) h s good fits = absurd h
  came-all L gives (r ∷ refs) [] h s good fits = absurd h
  came-all L gives (r ∷ refs) (b ∷ bs) h s good fits =
      let one = gives r b h.0 s good fits in
      let all = came-all L gives refs bs h.1 one.after one.good (let less = one.steps in omega (arith, less, fits)) in
      record {
        after = all.after;
        got = ap (λ m. go_on m (λ y. each value refs >>= λ ys. give (y ∷ ys))) one.got ∙ ap (λ m. go_on m (λ ys. give (name_of b ∷ ys))) all.got;
        good = all.good;
        more = λ name was. all.more name (one.more name was);
        steps = let first = one.steps in let then = all.steps in omega (arith, first, then);
        holds = λ name bytes was. all.holds name bytes (one.holds name bytes was);
        there = (all.holds (name_of b) b one.there, all.there);
      }

  -- a value that is held
  came-value : (L : List Entry) (name : ObjectName) (b : List ℕ) → held objects name ≡ Some b → (s : State) → IsGood s → Came L b s (value (Value name) s)
  came-value L name b is s good =
      let there : held s.store.objects name ≡ Some b = good.holds name b is in
      let named : name_of b ≡ name = held-named s.store.objects name b there in
      record {
        after = s;
        got = value_of-is answer budget (Value name) s
            ∙ ap (λ found. go_on (need found (Refused (Missing name)) s) (λ _. give name)) there
            ∙ ap (λ name. Got name s) (sym named);
        good = good;
        more = λ name was. was;
        steps = omega arith;
        holds = λ name bytes was. was;
        there = ap (held s.store.objects) named ∙ there;
      }

  -- an output of one thunk
  out-got : (e : Entry) (s t : State) → kind_of e.value ≡ kinds.Value → outputs_at answer budget value e.name 0 (s.reduced e.name) s ≡ Got (name_of e.value ∷ []) t → value (Out e.name 0) s ≡ Got (name_of e.value) t
  out-got e s t kind got =
      value_of-is answer budget (Out e.name 0) s
      ∙ ap (λ m. go_on (go_on m (λ outs. need (slice_get outs 0) (Refused (NoOutput e.name 0)))) (λ output. passed answer budget value output.kind output)) got
      ∙ ap (λ kind. passed answer budget value kind (name_of e.value) t) kind

  abbrev counted : State → State
  counted s = record s { steps = suc s.steps }

  entered-is : (e : Entry) (s : State) → held s.store.objects e.name ≡ Some (text_of e.thunk) → thunk_of (text_of e.thunk) ≡ Some e.thunk → e.thunk.outputs ≡ one_output → s.steps < budget →
      entered budget e.name 0 s ≡ Got e.thunk (counted s)
  entered-is e s there read outputs below =
      let lt : nat_lt s.steps budget ≡ true = lt-ltb s.steps budget below in
      ap (λ found. go_on (go_on (need found (Refused (Missing e.name)) s) (λ bytes. need (thunk_of bytes) (Refused (BadThunk e.name)))) rest) there
      ∙ ap (λ found. go_on (need found (Refused (BadThunk e.name)) s) rest) read
      ∙ ap (λ outputs. go_on (check (nat_lt 0 (length outputs)) (Refused (NoOutput e.name 0)) s) (λ _. count_step budget e.name >>= λ _. give e.thunk)) outputs
      ∙ ap (λ test. go_on (go_on (check test (Refused (Spent e.name budget)) s) (λ _. step)) (λ _. give e.thunk)) lt
    where
      rest : Parts → Eval Parts
      rest t = check (nat_lt 0 (length t.outputs)) (Refused (NoOutput e.name 0)) >>= λ _. count_step budget e.name >>= λ _. give t

  module _ (L : List Entry) (gives : Gives L) (e : Entry) (is_entry : IsEntry outcome objects L e) (among : Among e whole) (s : State) (good : IsGood s) (fits : s.steps + left s.reduced (e ∷ L) ≤ budget) where
    came-known : (known : Option (List ObjectName)) → s.reduced e.name ≡ known → Came (e ∷ L) e.value s (value (Out e.name 0) s)
    came-known (Some outs) is =
        let k = good.known e among outs is in
        record {
          after = s;
          got = out-got e s s is_entry.kind (ap (λ known. outputs_at answer budget value e.name 0 known s) is ∙ ap (λ outs. Got outs s) k.0);
          good = good;
          more = λ name was. was;
          steps = omega arith;
          holds = λ name bytes was. was;
          there = k.1;
        }
    came-known None is =
        let bit : unmarked (is_some (s.reduced e.name)) ≡ 1 = ap (λ (known : Option (List ObjectName)). unmarked (is_some known)) is in
        let below : s.steps < budget = omega (arith, bit, fits) in
        let enter = entered-is e s (good.holds e.name (text_of e.thunk) is_entry.there) is_entry.read (is_entry.job.outputs ∙ is_entry.one) below in
        let all = came-all L gives (refs_of e.thunk) (job_values e.job) (job-values (denoted objects L) e.thunk e.job is_entry.job) (counted s) good (omega (arith, bit, fits)) in
        let red = reduces outcome objects whole fair alone e among (note-reads whole fair e among) all.after all.good all.there.0 (held-inputs all.after.store.objects e.job.inputs all.there.1) in
        record {
          after = red.after;
          got = out-got e s red.after is_entry.kind
              (ap (λ known. outputs_at answer budget value e.name 0 known s) is
              ∙ ap (λ m. go_on m (λ t. each value (refs_of t) >>= λ values. reduce answer e.name (resolved_by t values))) enter
              ∙ ap (λ m. go_on m (λ values. reduce answer e.name (resolved_by e.thunk values))) all.got
              ∙ ap (λ t. reduce answer e.name t all.after) (resolved-is (denoted objects L) e.thunk e.job is_entry.job)
              ∙ red.got);
          good = red.good;
          more = λ name was. red.more name (all.more name was);
          steps =
              let end : unmarked (is_some (red.after.reduced e.name)) ≡ 0 = ap unmarked red.done in
              let rest = left-more all.after.reduced red.after.reduced L red.more in
              let same = red.steps in let less = all.steps in
              omega (arith, bit, end, rest, same, less);
          holds = λ name bytes was. red.holds name bytes (all.holds name bytes was);
          there = red.there;
        }

    came-entry : Came (e ∷ L) e.value s (value (Out e.name 0) s)
    came-entry = came-known (s.reduced e.name) refl

  -- what is left of one more
  came-more : (e : Entry) (L : List Entry) (b : List ℕ) (s : State) (m : Ended ObjectName) → Came L b s m → Came (e ∷ L) b s m
  came-more e L b s m came = record {
    after = came.after;
    got = came.got;
    good = came.good;
    more = came.more;
    steps = let less = came.steps in let one = left-more s.reduced came.after.reduced (e ∷ []) came.more in omega (arith, less, one);
    holds = came.holds;
    there = came.there;
  }

  pub came : (L : List Entry) → IsLedger outcome objects L → ((e : Entry) → Among e L → Among e whole) → Gives L
  came L ledger sub (Value name) b is s good fits = came-value L name b is s good
  came L ledger sub (Out name (suc k)) b is s good fits = absurd (none-some b is)
  came [] ledger sub (Out name zero) b is s good fits = absurd (none-some b is)
  came (e ∷ L) ledger sub (Out name zero) b is s good fits =
      by (came L ledger.1 (λ x h. sub x (inr h))) (eq_by_cmp name_cmp e.name name) refl is
    where
      by : Gives L → (test : Bool) → eq_by_cmp name_cmp e.name name ≡ test → cond test (Some e.value) (valued L name) ≡ Some b → Came (e ∷ L) b s (value (Out name zero) s)
      by gives true same is =
          let one = came-entry L gives e ledger.0 (sub e (inl refl)) s good fits in
          subst (λ (name : ObjectName). Came (e ∷ L) b s (value (Out name zero) s)) ((eq_by_cmp-name e.name name).0 same)
          (subst (λ (b : List ℕ). Came (e ∷ L) b s (value (Out e.name zero) s)) (same_Some e.value b is) one)
      by gives false differ is =
          came-more e L b s (value (Out name zero) s) (gives (Out name zero) b is s good (omega (arith, fits)))
