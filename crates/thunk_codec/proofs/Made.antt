-- A thunk made of the parts of a text, where they keep the rules.
use Rattle.std.proofs.Common.{◌≡◌, ◌≤◌, Bool, true, false, List, ℕ, length, map, Some, None, refl, sym, subst, ◌∙◌}
use Rattle.std.specs.List.{list_all}
use Rattle.std.proofs.lemmas.Bool.{false_from_ne_true, false≢true}
use Rattle.object_name.specs.Name.{max_size}
use Rattle.thunk_codec.specs.declared.decoding.DecodeFault.{DecodeFault}
use Rattle.thunk_codec.specs.declared.decoding.DecodeFault.TheVariants.{BadThunk, Memory}
use Rattle.thunk_codec.specs.declared.reference.Ref.{Ref}
use Rattle.thunk_codec.specs.Gives.{Refuses, only_if}
use Rattle.thunk_codec.specs.Path.{is_path}
use Rattle.thunk_codec.specs.Thunk.{Parts, IsThunk, text_of, keeps_numbers, keeps_bytes, keeps_orders, keeps_rules}
use Rattle.thunk_codec.specs.Raw.{HasRefs}
use Rattle.thunk_codec.proofs.CanonicalPaths.{only_if_none, none_is_false}
use Rattle.thunk_codec.proofs.RulesKept.{Keeps, rules_kept, kept_rules}
use Rattle.thunk_codec.proofs.Thunks.{rules_from}

-- a test that holds where the rules are kept, and doesn't hold
pub not_kept : (t : Parts) (test : Bool) → (Keeps t → test ≡ true) → test ≡ false → only_if (keeps_rules t) t ≡ None
not_kept t test needs fails = only_if_none (keeps_rules t) t (false_from_ne_true (keeps_rules t) (λ h. false≢true (sym fails ∙ needs (rules_kept t h))))

pub refused : {Y : Type 0} (fault : DecodeFault) (t : Parts) (test : Bool) (x : Y) → (Keeps t → test ≡ true) → Refuses fault (only_if test x) → Refuses fault (only_if (keeps_rules t) t)
refused BadThunk t test x needs h = not_kept t test needs (none_is_false test x h)
refused Memory t test x needs h = tt

-- what the test let through
pub let_through : {Y : Type 0} (test : Bool) (x y : Y) → only_if test x ≡ Some y → (test ≡ true) × (x ≡ y)
let_through true x y e = (refl, cc)
let_through false x y e = absurd cc

-- a thunk of the parts, and that it is what the rules let through
pub made_thunk : (t : Parts) (inputs : List (List ℕ × Ref)) (outputs : List (List ℕ)) → HasRefs t → length (text_of t) ≤ max_size → keeps_numbers t ≡ true → keeps_bytes t ≡ true → keeps_orders t ≡ true
    → only_if (list_all is_path (map (λ input. input.0) t.inputs)) t.inputs ≡ Some inputs → only_if (list_all is_path t.outputs) t.outputs ≡ Some outputs
    → IsThunk (record { function = t.function; args = t.args; envs = t.envs; inputs = inputs; outputs = outputs })
    × (only_if (keeps_rules t) t ≡ Some (record { function = t.function; args = t.args; envs = t.envs; inputs = inputs; outputs = outputs }))
made_thunk t inputs outputs refs size numbers bytes orders inputs_are outputs_are =
    let a = let_through (list_all is_path (map (λ input. input.0) t.inputs)) t.inputs inputs inputs_are in
    let b = let_through (list_all is_path t.outputs) t.outputs outputs outputs_are in
    let kept : keeps_rules t ≡ true = kept_rules t (record { numbers = numbers; bytes = bytes; orders = orders; inputs = a.0; outputs = b.0 }) in
    let whole : IsThunk t × (only_if (keeps_rules t) t ≡ Some t) = (rules_from t refs size kept, rw kept refl) in
    let with_inputs = subst (λ (v : List (List ℕ × Ref)). IsThunk (record t { inputs = v }) × (only_if (keeps_rules t) t ≡ Some (record t { inputs = v }))) a.1 whole in
    subst (λ (v : List (List ℕ)). IsThunk (record t { inputs = inputs; outputs = v }) × (only_if (keeps_rules t) t ≡ Some (record t { inputs = inputs; outputs = v }))) b.1 with_inputs
