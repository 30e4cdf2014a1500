-- Thunks with values in place of their REFs are thunks.
use Rattle.std.proofs.Common.{◌≡◌, Bool, true, ℕ, zero, suc, ◌+◌, ◌<◌, ◌≤◌, List, [], ◌∷◌, ◌++◌, length, map, take, drop, get_or, ◌-◌, refl, sym, ap, subst, ◌∙◌, arith, length-append}
use Rattle.std.specs.Prelude.{decimal}
use Rattle.std.specs.List.{flat_map, AllByRecursion}
use Rattle.std.proofs.lemmas.List.{length-map, take_all}
use Rattle.std.proofs.lemmas.List.Concat.{flat_map-cons}
use Rattle.object_name.specs.Name.{ObjectName, IsName, spelling}
use Rattle.object_name.proofs.PublicLaws.{length-spelling}
use Rattle.object_name.specs.declared.kind.Kind.TheVariants as kinds
use Rattle.thunk_codec.specs.declared.reference.Ref.{Ref}
use Rattle.thunk_codec.specs.declared.reference.Ref.TheVariants.{Value, Out}
use Rattle.thunk_codec.specs.Reference.{IsRef, ref_text}
use Rattle.thunk_codec.specs.Thunk.{Parts, IsThunk, text_of, head_line, end_line, counted, function_line, arg_line, env_line, input_line, output_line, keeps_rules}
use Rattle.thunk_codec.specs.Resolved.{refs_of, with_values, resolved_by, AreNames, HaveValueKind}

with_one-more : (inputs : List (List ℕ × Ref)) (values : List ObjectName) (i : ℕ) (d : List ℕ × Ref) (e : ObjectName) → i < length inputs → i < length values
    → with_values (take (suc i) inputs) (take (suc i) values) ≡ with_values (take i inputs) (take i values) ++ ((get_or inputs i d).0, Value (get_or values i e)) ∷ []
with_one-more [] values i d e lt less = absurd (omega (arith, lt))
with_one-more (input ∷ inputs) [] i d e lt less = absurd (omega (arith, less))
with_one-more (input ∷ inputs) (value ∷ values) zero d e lt less = refl
with_one-more (input ∷ inputs) (value ∷ values) (suc i) d e lt less =
    ap (λ (v : List (List ℕ × Ref)). (input.0, Value value) ∷ v) (with_one-more inputs values i d e (omega (arith, lt)) (omega (arith, less)))

-- one value more
pub with_values-more : (inputs : List (List ℕ × Ref)) (values : List ObjectName) (i : ℕ) (d : List ℕ × Ref) (e : ObjectName) (made new : List (List ℕ × Ref)) (path : List ℕ)
    → i < length inputs → length values ≡ length inputs → path ≡ (get_or inputs i d).0 → made ≡ with_values (take i inputs) (take i values) → new ≡ made ++ (path, Value (get_or values i e)) ∷ []
    → new ≡ with_values (take (i + 1) inputs) (take (i + 1) values)
with_values-more inputs values i d e made new path lt same is before pushed =
    let next : suc i ≡ i + 1 = omega arith in
    let less : i < length values = omega (arith, lt, same) in
    pushed ∙ ap (λ (v : List (List ℕ × Ref)). v ++ (path, Value (get_or values i e)) ∷ []) before
    ∙ ap (λ (v : List ℕ). with_values (take i inputs) (take i values) ++ (v, Value (get_or values i e)) ∷ []) is
    ∙ sym (with_one-more inputs values i d e lt less) ∙ ap (λ (n : ℕ). with_values (take n inputs) (take n values)) next

-- the paths stay
pub with_values-paths : (inputs : List (List ℕ × Ref)) (values : List ObjectName) → map (λ input. input.0) (with_values inputs values) ≡ map (λ input. input.0) inputs
with_values-paths [] values = refl
with_values-paths (input ∷ inputs) [] = refl
with_values-paths (input ∷ inputs) (value ∷ values) = ap (λ (v : List (List ℕ)). input.0 ∷ v) (with_values-paths inputs values)

with_values-count : (inputs : List (List ℕ × Ref)) (values : List ObjectName) → length (with_values inputs values) ≡ length inputs
with_values-count inputs values =
    sym (length-map (with_values inputs values) (λ (i : List ℕ × Ref). i.0)) ∙ ap length (with_values-paths inputs values) ∙ length-map inputs (λ (i : List ℕ × Ref). i.0)

with_values-refs : (inputs : List (List ℕ × Ref)) (values : List ObjectName) → AllByRecursion IsRef (map (λ input. input.1) inputs) → AreNames values → HaveValueKind values
    → AllByRecursion IsRef (map (λ input. input.1) (with_values inputs values))
with_values-refs [] values refs names kinds = tt
with_values-refs (input ∷ inputs) [] refs names kinds = refs
with_values-refs (input ∷ inputs) (value ∷ values) refs names kinds = ((names.0, kinds.0), with_values-refs inputs values refs.1 names.1 kinds.1)

-- no REF is spelled shorter than a value
shortest : (value : ObjectName) (r : Ref) → IsName value → IsRef r → length (ref_text (Value value)) ≤ length (ref_text r)
shortest value (Value name) h g = omega (arith, length-spelling value h, length-spelling name g.0)
shortest value (Out name index) h g = omega (arith, length-spelling value h, length-spelling name g.0, length-append (spelling name) (35 ∷ decimal index))

length-function_line : (r : Ref) → length (function_line r) ≡ 3 + length (ref_text r)
length-function_line r = simp length-append (omega arith)

length-input : (input : List ℕ × Ref) → length (input_line input) ≡ 4 + length (counted input.0) + length (ref_text input.1)
length-input input =
    let said : length (counted input.0 ++ 32 ∷ ref_text input.1) ≡ length (counted input.0) + (1 + length (ref_text input.1)) = length-append (counted input.0) (32 ∷ ref_text input.1) ∙ omega arith in
    let whole : length ((counted input.0 ++ 32 ∷ ref_text input.1) ++ 10 ∷ []) ≡ length (counted input.0 ++ 32 ∷ ref_text input.1) + 1 = length-append (counted input.0 ++ 32 ∷ ref_text input.1) (10 ∷ []) in
    omega (arith, said, whole)

-- so the lines get no longer
with_values-size : (inputs : List (List ℕ × Ref)) (values : List ObjectName) → AllByRecursion IsRef (map (λ input. input.1) inputs) → AreNames values
    → length (flat_map input_line (with_values inputs values)) ≤ length (flat_map input_line inputs)
with_values-size [] values refs names = omega arith
with_values-size (input ∷ inputs) [] refs names = omega arith
with_values-size (input ∷ inputs) (value ∷ values) refs names =
    let before = ap length (flat_map-cons input_line input inputs) ∙ length-append (input_line input) (flat_map input_line inputs) in
    let after = ap length (flat_map-cons input_line (input.0, Value value) (with_values inputs values)) ∙ length-append (input_line (input.0, Value value)) (flat_map input_line (with_values inputs values)) in
    omega (arith, before, after, length-input input, length-input (input.0, Value value), shortest value input.1 names.0 refs.0, with_values-size inputs values refs.1 names.1)

-- the length of a text, by its lines
text_size : (t : Parts) → length (text_of t) ≡ length head_line + (length (function_line t.function) + (length (flat_map arg_line t.args) + (length (flat_map env_line t.envs)
    + (length (flat_map input_line t.inputs) + (length (flat_map output_line t.outputs) + length end_line)))))
unfolding text_of
text_size t = simp length-append (omega arith)

pub resolved_size-less : (t : Parts) (value : ObjectName) (values : List ObjectName) → IsThunk t → IsName value → AreNames values
    → length (text_of (resolved_by t (value ∷ values))) ≤ length (text_of t)
resolved_size-less t value values rules name names =
    omega (
      arith,
      text_size t,
      text_size (resolved_by t (value ∷ values)),
      length-function_line t.function,
      length-function_line (Value value),
      shortest value t.function name rules.function,
      with_values-size t.inputs values rules.input_refs names,
    )

-- the rules are on the paths of the inputs, and not on what stands there
with_values-rules : (t : Parts) (values : List ObjectName) → keeps_rules (record t { inputs = with_values t.inputs values }) ≡ keeps_rules t
with_values-rules t values = rw (with_values-paths t.inputs values, with_values-count t.inputs values) refl

-- each of them is of a value
pub kind_at : (values : List ObjectName) (i : ℕ) (d : ObjectName) → i < length values → HaveValueKind values → (get_or values i d).kind ≡ kinds.Value
kind_at [] i d lt kinds = absurd (omega (arith, lt))
kind_at (value ∷ values) zero d lt kinds = kinds.0
kind_at (value ∷ values) (suc i) d lt kinds = kind_at values i d (omega (arith, lt)) kinds.1

-- a thunk with values in place of REFs is a thunk
pub resolved_is_thunk : (t : Parts) (values : List ObjectName) → IsThunk t → AreNames values → HaveValueKind values → IsThunk (resolved_by t values)
resolved_is_thunk t [] rules names kinds = rules
resolved_is_thunk t (value ∷ values) rules names kinds =
    record {
      function = (names.0, kinds.0);
      input_refs = with_values-refs t.inputs values rules.input_refs names.1 kinds.1;
      rules = subst (λ (v : Bool). v ≡ true) (sym (with_values-rules t values)) rules.rules;
      size = omega (arith, rules.size, resolved_size-less t value values rules names.0 names.1);
    }

-- the REFs of a thunk are REFs
pub refs_of_thunk : (t : Parts) → IsThunk t → AllByRecursion IsRef (refs_of t)
refs_of_thunk t rules = (rules.function, rules.input_refs)

input_values : (inputs : List (List ℕ × Ref)) (values : List ObjectName) → length values ≡ length inputs → map (λ input. input.1) (with_values inputs values) ≡ map Value values
input_values [] [] e = refl
input_values [] (value ∷ values) e = absurd (omega (arith, e))
input_values (input ∷ inputs) [] e = absurd (omega (arith, e))
input_values (input ∷ inputs) (value ∷ values) e = ap (λ (v : List Ref). Value value ∷ v) (input_values inputs values (omega (arith, e)))

-- with as many values as REFs, the values are its REFs
pub refs_of_resolved : (t : Parts) (values : List ObjectName) → length values ≡ length (refs_of t) → refs_of (resolved_by t values) ≡ map Value values
refs_of_resolved t [] e = absurd (omega (arith, e))
refs_of_resolved t (value ∷ values) e =
    ap (λ (v : List Ref). Value value ∷ v) (input_values t.inputs values (omega (arith, e, length-map t.inputs (λ (i : List ℕ × Ref). i.1))))

one_name-more : (names : List ObjectName) (i : ℕ) (d : ObjectName) → i < length names → AreNames (take i names) → IsName (get_or names i d) → AreNames (take (suc i) names)
one_name-more [] i d lt before one = tt
one_name-more (name ∷ names) zero d lt before one = (one, tt)
one_name-more (name ∷ names) (suc i) d lt before one = (before.0, one_name-more names i d (omega (arith, lt)) before.1 one)

-- one name more
pub names-more : (names : List ObjectName) (i : ℕ) (d name : ObjectName) → i < length names → AreNames (take i names) → name ≡ get_or names i d → IsName name → AreNames (take (i + 1) names)
names-more names i d name lt before is one =
    let next : suc i ≡ i + 1 = omega arith in
    subst (λ (n : ℕ). AreNames (take n names)) next (one_name-more names i d lt before (subst IsName is one))

-- the thunk that the code makes
pub made_resolved : (t : Parts) (values : List ObjectName) (d value : ObjectName) (here inputs : List (List ℕ × Ref)) → 1 ≤ length values → HaveValueKind values → value ≡ get_or values 0 d → IsName value
    → here ≡ t.inputs → inputs ≡ with_values here (take (length values - 1) (drop 1 values)) → AreNames (take (length values - 1) (drop 1 values)) → IsThunk t → IsThunk (record t { function = Value value; inputs = inputs })
made_resolved t [] d value here inputs some kinds is name from made names rules = absurd (omega (arith, some))
made_resolved t (first ∷ others) d value here inputs some kinds is name from made names rules =
    let all : take (length (first ∷ others) - 1) others ≡ others = take_all (length (first ∷ others) - 1) others (omega arith) in
    let same : with_values t.inputs others ≡ inputs = sym (made ∙ ap (λ (v : List (List ℕ × Ref)). with_values v (take (length (first ∷ others) - 1) others)) from ∙ ap (with_values t.inputs) all) in
    let whole = resolved_is_thunk t (first ∷ others) rules (subst IsName is name, subst AreNames all names) kinds in
    let with_inputs = subst (λ (v : List (List ℕ × Ref)). IsThunk (record t { function = Value first; inputs = v })) same whole in
    subst (λ (v : ObjectName). IsThunk (record t { function = Value v; inputs = inputs })) (sym is) with_inputs

pub pushed_as : (made new : List (List ℕ × Ref)) (path : List ℕ) (value same : ObjectName) → value ≡ same → new ≡ made ++ (path, Value value) ∷ [] → new ≡ made ++ (path, Value same) ∷ []
pushed_as made new path value same is pushed = pushed ∙ ap (λ (v : ObjectName). made ++ (path, Value v) ∷ []) is
