-- What the code that makes a thunk of parts has seen of them.
use Rattle.std.proofs.Common.{◌≡◌, ◌≤◌, Bool, true, false, List, ℕ, length, map, [], ◌∷◌, sym, subst, ◌∙◌}
use Rattle.std.specs.Prelude.{IsTrue, ◌↔◌}
use Rattle.std.specs.List.{list_all, AllByRecursion}
use Rattle.std.proofs.lemmas.Bool.{false≢true}
use Rattle.object_name.specs.Name.{max_size}
use Rattle.thunk_codec.specs.declared.reference.Ref.{Ref}
use Rattle.thunk_codec.specs.Path.{is_path}
use Rattle.thunk_codec.specs.Reference.{IsRef}
use Rattle.thunk_codec.specs.Thunk.{Parts, IsThunk, text_of, keeps_numbers, keeps_bytes, keeps_orders}
use Rattle.thunk_codec.proofs.RulesKept.{rules_kept, kept_rules}
use Rattle.thunk_codec.proofs.Thunks.{rules_from}

unmapped_refs : (inputs : List (List ℕ × Ref)) → AllByRecursion IsRef (map (λ input. input.1) inputs) → AllByRecursion (λ input. IsRef input.1) inputs
unmapped_refs [] h = tt
unmapped_refs (input ∷ inputs) h = (h.0, unmapped_refs inputs h.1)

-- where a REF is none, there is no thunk
pub no_refs : (t : Parts) (test : Bool) (inputs : List (List ℕ × Ref)) → inputs ≡ t.inputs → (IsTrue test ↔ AllByRecursion (λ input. IsRef input.1) inputs) → test ≡ false → IsThunk t → ⊥
no_refs t test inputs is decides fails rules =
    let refs = subst (λ (v : List (List ℕ × Ref)). AllByRecursion (λ input. IsRef input.1) v) (sym is) (unmapped_refs t.inputs rules.input_refs) in
    false≢true (sym fails ∙ decides.1 refs)

-- nor where bytes aren't as they may be
pub no_bytes : (t : Parts) → keeps_bytes t ≡ false → IsThunk t → ⊥
no_bytes t fails rules = false≢true (sym fails ∙ (rules_kept t rules.rules).bytes)

-- parts that keep all rules are a thunk's
pub are_thunk : (t : Parts) (text : List ℕ) → IsRef t.function → AllByRecursion (λ input. IsRef input.1) t.inputs → keeps_numbers t ≡ true → keeps_bytes t ≡ true → keeps_orders t ≡ true
    → list_all is_path (map (λ input. input.0) t.inputs) ≡ true → list_all is_path t.outputs ≡ true → text ≡ text_of t → length text ≤ max_size → IsThunk t
are_thunk t text function inputs numbers bytes orders input_paths output_paths is small =
    rules_from t (record { function = function; inputs = inputs }) (subst (λ (v : List ℕ). length v ≤ max_size) is small)
    (kept_rules t (record { numbers = numbers; bytes = bytes; orders = orders; inputs = input_paths; outputs = output_paths }))
