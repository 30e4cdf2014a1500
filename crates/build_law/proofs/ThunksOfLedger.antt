-- What a ledger says of each of its thunks.
use Rattle.std.proofs.Common.{◌≡◌, inl, inr, ℕ, Bool, true, false, cond, List, [], ◌∷◌, Some, refl, sym, ap, subst, ◌∙◌}
use Rattle.std.specs.Ordering.{eq_by_cmp}
use Rattle.std.proofs.lemmas.Option.{same_Some, none-some}
use Rattle.object_name.specs.declared.kind.Kind.TheVariants as kinds
use Rattle.object_name.specs.Kind.{kind_of}
use Rattle.object_name.specs.Name.{name_cmp}
use Rattle.thunk_codec.specs.declared.job.Job.{Job}
use Rattle.thunk_codec.specs.declared.job.Outcome.{Outcome}
use Rattle.thunk_codec.specs.declared.job.Outcome.TheVariants.{Done, Failed}
use Rattle.blob_store.specs.Store.{Contents}
use Rattle.object_name.proofs.PublicLaws.{eq_by_cmp-name, name_cmp-same}
use Rattle.build_plan.specs.Symbolic.{one_output}
use Rattle.build_law.proofs.Ledger.{Entry, valued, IsEntry, IsLedger, Among}

-- what is said of each thunk
pub record Alone (outcome : Job → Outcome) (L : List Entry) : Type 0 where
  pub one : (e : Entry) → Among e L → e.job.outputs ≡ one_output
  pub does : (e : Entry) → Among e L → outcome e.job ≡ Done (e.value ∷ [])
  pub kind : (e : Entry) → Among e L → kind_of e.value ≡ kinds.Value
  pub same_name : (a b : Entry) → Among a L → Among b L → a.name ≡ b.name → a.value ≡ b.value
  pub same_job : (a b : Entry) → Among a L → Among b L → a.job ≡ b.job → a.value ≡ b.value

module _ (outcome : Job → Outcome) (objects : Contents) where
  pub ledger-valued : (L : List Entry) → IsLedger outcome objects L → (e : Entry) → Among e L → valued L e.name ≡ Some e.value
  ledger-valued [] h e among = absurd among
  ledger-valued (x ∷ L) h e (inl same) =
      ap (λ (y : Entry). cond (eq_by_cmp name_cmp x.name y.name) (Some x.value) (valued L y.name)) (sym same)
      ∙ ap (λ test. cond test (Some x.value) (valued L x.name)) (name_cmp-same x.name)
      ∙ ap (λ (y : Entry). Some y.value) same
  ledger-valued (x ∷ L) h e (inr among) = by (ledger-valued L h.1 e among) (eq_by_cmp name_cmp x.name e.name) refl
    where
      by : valued L e.name ≡ Some e.value → (test : Bool) → eq_by_cmp name_cmp x.name e.name ≡ test → cond test (Some x.value) (valued L e.name) ≡ Some e.value
      by rest true is = absurd (none-some e.value (sym h.0.fresh ∙ ap (valued L) ((eq_by_cmp-name x.name e.name).0 is) ∙ rest))
      by rest false is = rest

  each-entry : (P : Entry → Type 0) → ((L : List Entry) (e : Entry) → IsEntry outcome objects L e → P e) → (L : List Entry) → IsLedger outcome objects L → (e : Entry) → Among e L → P e
  each-entry P f [] h e among = absurd among
  each-entry P f (x ∷ L) h e (inl same) = subst P same (f L x h.0)
  each-entry P f (x ∷ L) h e (inr among) = each-entry P f L h.1 e among

  abbrev first_of : List ℕ → List (List ℕ) → List ℕ
  first_of other [] = other
  first_of other (b ∷ bs) = b

  abbrev pub first_output : Outcome → List ℕ
  first_output (Done outputs) = first_of [] outputs
  first_output (Failed status) = []

  pub alone : (L : List Entry) → IsLedger outcome objects L → Alone outcome L
  alone L h = record {
    one = each-entry (λ e. e.job.outputs ≡ one_output) (λ M e is. is.one) L h;
    does = each-entry (λ e. outcome e.job ≡ Done (e.value ∷ [])) (λ M e is. is.does) L h;
    kind = each-entry (λ e. kind_of e.value ≡ kinds.Value) (λ M e is. is.kind) L h;
    same_name = λ a b in_a in_b e. same_Some a.value b.value (sym (ledger-valued L h a in_a) ∙ ap (valued L) e ∙ ledger-valued L h b in_b);
    same_job = λ a b in_a in_b e.
        let da = each-entry (λ e. outcome e.job ≡ Done (e.value ∷ [])) (λ M e is. is.does) L h a in_a in
        let db = each-entry (λ e. outcome e.job ≡ Done (e.value ∷ [])) (λ M e is. is.does) L h b in_b in
        ap first_output (sym da ∙ ap outcome e ∙ db);
  }
