-- A change of a table at one identifier, as a change of what identifiers stand for.
use Rattle.std.proofs.Common.{◌≡◌, ℕ, Bool, true, false, List, Option, Some, sym, ap, subst, ◌∙◌, inl, inr}
use Rattle.std.specs.Prelude.{bytes_eq}
use Rattle.std.specs.Cmp.Lexicographic.{bytes_decides, nat_list_eq_equiv}
use Rattle.std.specs.HashMap.{HashMap, get_by, UpdatesBy}
use Rattle.std.specs.Map.{lookup, IsKeyTest, AreApart, KeepsOthers}
use Rattle.std.proofs.lemmas.Bool.{cases_Bool, cond-true, cond-false}
use Rattle.tool_text.specs.Expand.{Macros, with_macro}

-- the texts by the bytes of their keys
abbrev pub texts_by : {K S : Type 0} → (K → List ℕ) → HashMap K (List ℕ) S → Macros
texts_by bytes table = λ name. get_by (λ key. bytes_eq name (bytes key)) table

apart : (name other key : List ℕ) → bytes_eq name other ≡ false → bytes_eq name key ≡ true → bytes_eq other key ≡ false
apart name other key n y = nat_list_eq_equiv.symm other key ∙ sym (nat_list_eq_equiv.congr name key other y) ∙ n

others_stay : {K X : Type 0} (eq : K → K → Bool) (test : K → Bool) (old new : List (K × X)) → KeepsOthers eq test old new → (other : K → Bool) → IsKeyTest eq other → AreApart test other → lookup other new ≡ lookup other old
unfolding KeepsOthers
others_stay eq test old new h = h

pub table_updated : {K S : Type 0} (bytes : K → List ℕ) (name : List ℕ) (old new : HashMap K (List ℕ) S) (text : Option (List ℕ))
    → UpdatesBy (λ x y. bytes_eq (bytes x) (bytes y)) (λ key. bytes_eq name (bytes key)) old new text
    → texts_by bytes new ≡ with_macro name text (texts_by bytes old)
table_updated bytes name old new text h =
    let at : (other : List ℕ) → texts_by bytes new other ≡ with_macro name text (texts_by bytes old) other =
    λ (other : List ℕ). elim (cases_Bool (bytes_eq name other)) [
      | inl same ↦ subst (λ (v : List ℕ). texts_by bytes new v ≡ text) ((bytes_decides name other).0 same) h.1 ∙ sym (cond-true (bytes_eq name other) text (texts_by bytes old other) same)
      | inr differs ↦
          others_stay _ _ _ _ h.3 _ (λ x y. nat_list_eq_equiv.congr other (bytes x) (bytes y)) (λ key. apart name other (bytes key) differs)
          ∙ sym (cond-false (bytes_eq name other) text (texts_by bytes old other) differs)
    ]
    in λ i other. at other i

pub table_defined : {K S : Type 0} (bytes : K → List ℕ) (key : K) (name : List ℕ) (old new : HashMap K (List ℕ) S) (text written : List ℕ)
    → UpdatesBy (λ x y. bytes_eq (bytes x) (bytes y)) (λ other. bytes_eq (bytes key) (bytes other)) old new (Some written)
    → bytes key ≡ name → written ≡ text → texts_by bytes new ≡ with_macro name (Some text) (texts_by bytes old)
table_defined bytes key name old new text written h is same =
    table_updated bytes (bytes key) old new (Some written) h ∙ ap (λ (v : List ℕ). with_macro v (Some written) (texts_by bytes old)) is
    ∙ ap (λ (v : List ℕ). with_macro name (Some v) (texts_by bytes old)) same
