-- What is asked of the jobs of a build, as asked of the thunks of a ledger.
use Rattle.std.proofs.Common.{◌≡◌, inl, inr, ℕ, zero, suc, Bool, true, false, cond, List, [], ◌∷◌, Some, length, map, refl, sym, ap, subst, ◌∙◌}
use Rattle.std.specs.List.{AllByRecursion}
use Rattle.std.specs.Ordering.{eq_by_cmp}
use Rattle.std.proofs.lemmas.Option.{same_Some, none-some}
use Rattle.object_name.specs.Name.{ObjectName, name_of, name_cmp}
use Rattle.object_name.proofs.PublicLaws.{is-name}
use Rattle.thunk_codec.specs.declared.job.Job.{Job}
use Rattle.thunk_codec.specs.declared.reference.Ref.{Ref}
use Rattle.thunk_codec.specs.declared.reference.Ref.TheVariants.{Value, Out}
use Rattle.thunk_codec.specs.declared.job.Outcome.{Outcome}
use Rattle.thunk_codec.specs.declared.job.Outcome.TheVariants.{Done, Failed}
use Rattle.thunk_codec.specs.Outcome.{Fits}
use Rattle.thunk_codec.specs.Job.{ref_name}
use Rattle.thunk_codec.specs.Thunk.{Parts, text_of}
use Rattle.thunk_codec.specs.Reading.{thunk_of}
use Rattle.thunk_codec.proofs.PublicLaws.{text-thunk_of}
use Rattle.blob_store.specs.Store.{Contents, Store, held}
use Rattle.need_eval.specs.Eval.{start}
use Rattle.need_eval.proofs.PublicLaws.{held-named}
use Rattle.file_tree.specs.Files.{Files}
use Rattle.build_plan.specs.declared.plan.Scanning.{Scanning}
use Rattle.build_plan.specs.Symbolic.{Work}
use Rattle.build_script.specs.AtOnce.{Ran}
use Rattle.build_law.specs.Denoted.{Reached, NotesAreTrue}
use Rattle.build_law.specs.Jobs.{value_input, resolved, resolved_name, IsMet, HaveNoClash, AreWithin}
use Rattle.build_law.proofs.Ledger.{Entry, valued, denoted, AreInputs, IsLedger, Among, Fair}
use Rattle.build_law.proofs.LedgerReached.{jobs-denoted}
use Rattle.build_law.proofs.PlansAgree.{Agree}
use Rattle.build_law.proofs.StageMakesThunk.{done-small}
use Rattle.build_law.proofs.ThunksOfLedger.{Alone, alone}
use Rattle.build_law.proofs.ValuesStayHeld.{Good}

record Found (L : List Entry) (b : List ℕ) : Type 0 where
  entry : Entry
  among : Among entry L
  value : entry.value ≡ b

found : (L : List Entry) (name : ObjectName) (b : List ℕ) → valued L name ≡ Some b → Found L b
found [] name b is = absurd (none-some b is)
found (e ∷ L) name b is = by (found L name b) (eq_by_cmp name_cmp e.name name) is
  where
    by : (valued L name ≡ Some b → Found L b) → (test : Bool) → cond test (Some e.value) (valued L name) ≡ Some b → Found (e ∷ L) b
    by rest true is = record { entry = e; among = inl refl; value = same_Some e.value b is }
    by rest false is = let f = rest is in record { entry = f.entry; among = inr f.among; value = f.value }

-- ---- two lists of inputs with one text

abbrev tail_of : {A : Type 0} → List A → List A
tail_of [] = []
tail_of (x ∷ xs) = xs

abbrev head_or : {A : Type 0} → A → List A → A
head_or other [] = other
head_or other (x ∷ xs) = x

abbrev IsCons : {A : Type 0} → List A → Type 0
IsCons [] = ⊥
IsCons (x ∷ xs) = Unit {0}

module _ (outcome : Job → Outcome) (fits : (job : Job) → Fits job (outcome job)) (whole : Files → Scanning → Outcome) (work : Work) (ran : Ran) (L : List Entry) (agree : Agree outcome fits whole work ran L) (no_clash : HaveNoClash outcome work.store ran.jobs) where
  abbrev Met : List ℕ → Type 0
  Met = IsMet outcome work.store ran.jobs

  facts : Alone outcome L
  facts = alone outcome work.store.objects L agree.ledger

  met-value : (e : Entry) → Among e L → Met e.value
  met-value e among = inr (e.job, agree.jobs e among, facts.does e among)

  met-ref : (M : List Entry) → ((e : Entry) → Among e M → Among e L) → (r : Ref) (b : List ℕ) → denoted work.store.objects M r ≡ Some b → Met b
  met-ref M sub (Value name) b is = inl (ap (held work.store.objects) (held-named work.store.objects name b is) ∙ is)
  met-ref M sub (Out name (suc k)) b is = absurd (none-some b is)
  met-ref M sub (Out name zero) b is = let f = found M name b is in subst Met f.value (met-value f.entry (sub f.entry f.among))

  met-inputs : (M : List Entry) → ((e : Entry) → Among e M → Among e L) → (refs : List (List ℕ × Ref)) (inputs : List (List ℕ × List ℕ)) → AreInputs (denoted work.store.objects M) refs inputs → AllByRecursion (λ i. Met i.1) inputs
  met-inputs M sub [] [] h = tt
  met-inputs M sub [] (c ∷ cs) h = absurd h
  met-inputs M sub (r ∷ refs) [] h = absurd h
  met-inputs M sub (r ∷ refs) (c ∷ cs) h = (met-ref M sub r.1 c.1 h.1, met-inputs M sub refs cs h.2)

  -- the objects of a job are met
  abbrev MetJob : Job → Type 0
  MetJob job = Met job.function × AllByRecursion (λ i. Met i.1) job.inputs

  met-jobs : (M : List Entry) → IsLedger outcome work.store.objects M → ((e : Entry) → Among e M → Among e L) → (e : Entry) → Among e M → MetJob e.job
  met-jobs [] h sub e among = absurd among
  met-jobs (x ∷ M) h sub e (inr among) = met-jobs M h.1 (λ e in_it. sub e (inr in_it)) e among
  met-jobs (x ∷ M) h sub e (inl same) =
      subst (λ (e : Entry). MetJob e.job) same
      (met-ref M (λ e in_it. sub e (inr in_it)) x.thunk.function x.job.function h.0.job.function, met-inputs M (λ e in_it. sub e (inr in_it)) x.thunk.inputs x.job.inputs h.0.job.inputs)

  same-inputs : (a b : List (List ℕ × List ℕ)) → AllByRecursion (λ i. Met i.1) a → AllByRecursion (λ i. Met i.1) b → map value_input a ≡ map value_input b → a ≡ b
  same-inputs [] [] ma mb is = refl
  same-inputs [] (y ∷ b) ma mb is = absurd (subst IsCons (sym is) tt)
  same-inputs (x ∷ a) [] ma mb is = absurd (subst IsCons is tt)
  same-inputs (x ∷ a) (y ∷ b) ma mb is =
      let first : value_input x ≡ value_input y = ap (head_or (value_input x)) is in
      let path : x.0 ≡ y.0 = ap (λ (i : List ℕ × Ref). i.0) first in
      let bytes : x.1 ≡ y.1 = no_clash.objects x.1 y.1 ma.0 mb.0 (ap (λ (i : List ℕ × Ref). ref_name i.1) first) in
      let rest = same-inputs a b ma.1 mb.1 (ap tail_of is) in
      λ d. (path d, bytes d) ∷ rest d

  same-resolved : (a b : Job) → MetJob a → MetJob b → resolved a ≡ resolved b → a ≡ b
  same-resolved a b ma mb is =
      let function = no_clash.objects a.function b.function ma.0 mb.0 (ap (λ (t : Parts). ref_name t.function) is) in
      let inputs = same-inputs a.inputs b.inputs ma.1 mb.1 (ap (λ (t : Parts). t.inputs) is) in
      λ d. record { function = function d; args = (is d).args; envs = (is d).envs; inputs = inputs d; outputs = (is d).outputs }

  pub fair : AreWithin ran.jobs → Fair L
  fair within = record {
    one_value = λ a b in_a in_b is. no_clash.objects a.value b.value (met-value a in_a) (met-value b in_b) is;
    one_job = λ a b in_a in_b is.
        let text = no_clash.texts a.job b.job (agree.jobs a in_a) (agree.jobs b in_b) is in
        let ra = text-thunk_of (text_of (resolved a.job)) (resolved a.job) (record { rules = agree.rules a in_a; text = refl }) in
        let rb = text-thunk_of (text_of (resolved b.job)) (resolved b.job) (record { rules = agree.rules b in_b; text = refl }) in
        same-resolved a.job b.job (met-jobs L agree.ledger (λ e in_it. in_it) a in_a) (met-jobs L agree.ledger (λ e in_it. in_it) b in_b)
        (same_Some (resolved a.job) (resolved b.job) (sym ra ∙ ap thunk_of text ∙ rb));
    small = λ a in_a. within a.job (agree.jobs a in_a);
    named = λ a in_a. is-name a.value (done-small outcome fits a.job a.value (facts.does a in_a));
    resolved_named = λ a in_a. is-name (text_of (resolved a.job)) (agree.rules a in_a).size;
  }

  abbrev outputs_or : List (List ℕ) → Outcome → List (List ℕ)
  outputs_or other (Done outputs) = outputs
  outputs_or other (Failed status) = other

  module _ (part : List Entry) (ledger : IsLedger outcome work.store.objects part) (sub : (e : Entry) → Among e part → Among e L) where
    pub fair-part : Fair L → Fair part
    fair-part f = record {
      one_value = λ a b in_a in_b. f.one_value a b (sub a in_a) (sub b in_b);
      one_job = λ a b in_a in_b. f.one_job a b (sub a in_a) (sub b in_b);
      small = λ a in_a. f.small a (sub a in_a);
      named = λ a in_a. f.named a (sub a in_a);
      resolved_named = λ a in_a. f.resolved_named a (sub a in_a);
    }

    pub good-start : (store : Store) → work.store.notes ≡ store.notes → (refs : List Ref) → ((e : Entry) → Among e part → Reached work.store.objects refs e.thunk) → NotesAreTrue outcome store work.store.objects refs →
        Good work.store.objects part work.store (start work.store).reduced
    good-start store same refs reached notes = record {
      holds = λ name bytes was. was;
      known = λ e among outs is. absurd (none-some outs is);
      notes = λ e among bytes note there read named number.
          let said = notes e.thunk (reached e among) (length part) e.job (jobs-denoted outcome work.store.objects part ledger e among) bytes note
          (ap (λ (notes : Contents). notes (resolved_name e.job)) (sym same) ∙ there) read named (number ∙ sym (ap length (facts.one e (sub e among)))) in
          said.2 ∙ ap (λ outputs. map name_of outputs) (ap (outputs_or []) (sym said.1 ∙ facts.does e (sub e among)));
      free = λ e among other is.
          let named : name_of other ≡ name_of e.value = held-named work.store.objects (name_of e.value) other is in
          no_clash.objects other e.value (inl (ap (held work.store.objects) named ∙ is)) (met-value e (sub e among)) named;
    }
