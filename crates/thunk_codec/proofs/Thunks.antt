-- A thunk's text is read as its parts, and nothing else is.
use Rattle.std.proofs.Common.{◌≡◌, ℕ, ◌+◌, ◌^◌, ◌<◌, ◌≤◌, Bool, true, false, not, eqb, leb, ◌||◌, List, [], ◌∷◌, ◌++◌, length, map, length-append, Some, refl, sym, ap, subst, ◌∙◌, arith}
use Rattle.std.specs.Prelude.{bytes_eq}
use Rattle.std.specs.List.{list_all, flat_map, AllByRecursion}
use Rattle.std.proofs.lemmas.Bool.{and_parts, and_from, leb-true, le-leb, not_from_false, ne_eqb, false≢true}
use Rattle.std.proofs.lemmas.List.{append-nil}
use Rattle.std.proofs.lemmas.List.Concat.{flat_map-cons}
use Rattle.std.proofs.lemmas.Option.{same_Some}
use Rattle.std.proofs.lemmas.Slice.Eq.{bytes_eq-Decides}
use Rattle.object_name.specs.Name.{max_size}
use Rattle.thunk_codec.specs.declared.reference.Ref.{Ref}
use Rattle.text_lines.specs.Maybe.{◌>>◌, bind_some, test_some}
use Rattle.thunk_codec.specs.Reference.{IsRef}
use Rattle.thunk_codec.specs.Thunk.{Parts, IsThunk, Text, text_of, keeps_rules, counted, arg_line, env_line, input_line, output_line, has_no_zero, is_letter, is_digit, is_identifier}
use Rattle.thunk_codec.specs.Raw.{HasRefs}
use Rattle.thunk_codec.specs.Reading.{parts_at, thunk_of}
use Rattle.thunk_codec.proofs.Lengths.{length-arg_line, length-output_line, length-line, length-counted, length-input_line}
use Rattle.text_lines.specs.Cuts.{has_no}
use Rattle.thunk_codec.proofs.Fields.{IsShort, IsPair, IsInput}
use Rattle.thunk_codec.proofs.RulesKept.{rules_kept}
use Rattle.thunk_codec.proofs.Texts.{IsReadable, parts_take, parts_again}

-- ---- the parts of a thunk are readable

first_and_others : {A : Type 0} (f : A → List ℕ) (x : A) (xs : List A) → length (flat_map f (x ∷ xs)) ≡ length (f x) + length (flat_map f xs)
first_and_others f x xs = ap length (flat_map-cons f x xs) ∙ length-append (f x) (flat_map f xs)

short_args : (args : List (List ℕ)) → length (flat_map arg_line args) < 2 ^ 64 → AllByRecursion IsShort args
short_args [] h = tt
short_args (arg ∷ args) h =
    let both = first_and_others arg_line arg args in
    (omega (arith, h, both, length-arg_line arg), short_args args (omega (arith, h, both)))

short_outputs : (outputs : List (List ℕ)) → length (flat_map output_line outputs) < 2 ^ 64 → AllByRecursion IsShort outputs
short_outputs [] h = tt
short_outputs (output ∷ outputs) h =
    let both = first_and_others output_line output outputs in
    (omega (arith, h, both, length-output_line output), short_outputs outputs (omega (arith, h, both)))

not_equals : (p : ℕ → Bool) (byte : ℕ) → p 61 ≡ false → p byte ≡ true → not (eqb byte 61) ≡ true
not_equals p byte none h = not_from_false _ (ne_eqb byte 61 (λ e. false≢true (sym none ∙ sym (ap p e) ∙ h)))

others_without : (key : List ℕ) → list_all (λ byte. is_letter byte || is_digit byte) key ≡ true → has_no 61 key ≡ true
others_without [] h = refl
others_without (byte ∷ key) h =
    let parts = and_parts (is_letter byte || is_digit byte) (list_all (λ b. is_letter b || is_digit b) key) h in
    and_from _ _ (not_equals (λ b. is_letter b || is_digit b) byte refl parts.0) (others_without key parts.1)

-- an identifier has no `=`
identifier_without : (key : List ℕ) → is_identifier key ≡ true → has_no 61 key ≡ true
identifier_without [] h = refl
identifier_without (byte ∷ key) h =
    let parts = and_parts (is_letter byte) (list_all (λ b. is_letter b || is_digit b) key) h in
    and_from _ _ (not_equals is_letter byte refl parts.0) (others_without key parts.1)

pairs : (envs : List (List ℕ × List ℕ)) → length (flat_map env_line envs) < 2 ^ 64 → list_all (λ env. is_identifier env.0) envs ≡ true → AllByRecursion IsPair envs
pairs [] h keys = tt
pairs (env ∷ envs) h keys =
    let both = first_and_others env_line env envs in
    let parts = and_parts (is_identifier env.0) (list_all (λ e. is_identifier e.0) envs) keys in
    let said = env.0 ++ 61 ∷ env.1 in
    ((identifier_without env.0 parts.0, omega (arith, h, both, length-line 101 (counted (env.0 ++ 61 ∷ env.1)), length-counted (env.0 ++ 61 ∷ env.1))), pairs envs (omega (arith, h, both)) parts.1)

input_parts : (inputs : List (List ℕ × Ref)) → length (flat_map input_line inputs) < 2 ^ 64 → AllByRecursion IsRef (map (λ input. input.1) inputs) → AllByRecursion IsInput inputs
input_parts [] h refs = tt
input_parts (input ∷ inputs) h refs =
    let both = first_and_others input_line input inputs in
    ((omega (arith, h, both, length-input_line input), refs.0), input_parts inputs (omega (arith, h, both)) refs.1)

pub thunk_readable : (t : Parts) → IsThunk t → IsReadable t
unfolding text_of
thunk_readable t rules =
    let whole = simp length-append at rules.size in
    let bytes = and_parts (list_all has_no_zero t.args) _ (rules_kept t rules.rules).bytes in
    let keys = and_parts (list_all (λ env. is_identifier env.0) t.envs) _ bytes.1 in
    record {
      function = rules.function;
      args = short_args t.args (omega (arith, whole));
      envs = pairs t.envs (omega (arith, whole)) keys.0;
      inputs = input_parts t.inputs (omega (arith, whole)) rules.input_refs;
      outputs = short_outputs t.outputs (omega (arith, whole));
    }

-- ---- both forms

mapped_refs : (inputs : List (List ℕ × Ref)) → AllByRecursion (λ input. IsRef input.1) inputs → AllByRecursion IsRef (map (λ input. input.1) inputs)
mapped_refs [] h = tt
mapped_refs (input ∷ inputs) h = (h.0, mapped_refs inputs h.1)

-- parts that keep the rules and have a short text are a thunk's
pub rules_from : (t : Parts) → HasRefs t → length (text_of t) ≤ max_size → keeps_rules t ≡ true → IsThunk t
rules_from t refs size rules = record { function = refs.function; input_refs = mapped_refs t.inputs refs.inputs; rules = rules; size = size }

-- what is read has this text
pub thunk_of-text : (bytes : List ℕ) (t : Parts) → thunk_of bytes ≡ Some t → Text bytes t
unfolding thunk_of
thunk_of-text bytes t e =
    let a = test_some (leb (length bytes) max_size) _ t e in
    let b = bind_some (parts_at bytes) (λ read. bytes_eq read.1 [] >> (keeps_rules read.0 >> Some read.0)) t a.1 in
    let c = test_some (bytes_eq b.0.1 []) (keeps_rules b.0.0 >> Some b.0.0) t b.2 in
    let d = test_some (keeps_rules b.0.0) (Some b.0.0) t c.1 in
    let taken = parts_take bytes b.0 b.1 in
    let nothing : b.0.1 ≡ [] = (bytes_eq-Decides b.0.1 []).0 c.0 in
    let text : bytes ≡ text_of b.0.0 = taken.0 ∙ ap (λ (v : List ℕ). text_of b.0.0 ++ v) nothing ∙ append-nil (text_of b.0.0) in
    let small : length (text_of b.0.0) ≤ max_size = subst (λ (v : List ℕ). length v ≤ max_size) text (leb-true _ _ a.0) in
    subst (Text bytes) (same_Some b.0.0 t d.1) (record { rules = rules_from b.0.0 taken.1 small d.0; text = text })

-- what has this text is read
pub text-thunk_of : (bytes : List ℕ) (t : Parts) → Text bytes t → thunk_of bytes ≡ Some t
unfolding thunk_of
text-thunk_of bytes t h =
    let read : parts_at bytes ≡ Some (t, []) = ap parts_at (h.text ∙ sym (append-nil (text_of t))) ∙ parts_again t [] (thunk_readable t h.rules) in
    let small : leb (length bytes) max_size ≡ true = le-leb _ _ (subst (λ (v : List ℕ). length v ≤ max_size) (sym h.text) h.rules.size) in
    let rules : keeps_rules t ≡ true = h.rules.rules in
    rw (small, read, rules) refl

-- no text is that of two thunks
pub same_thunk : (bytes : List ℕ) (t u : Parts) → Text bytes t → Text bytes u → t ≡ u
same_thunk bytes t u h g = same_Some t u (sym (text-thunk_of bytes t h) ∙ text-thunk_of bytes u g)

-- no thunk has two texts
pub same_text : (a b : List ℕ) (t : Parts) → Text a t → Text b t → a ≡ b
same_text a b t h g = h.text ∙ sym g.text

-- no proper prefix of a text is a text
pub no_rest : (bytes rest : List ℕ) (t u : Parts) → Text bytes t → Text (bytes ++ rest) u → rest ≡ []
no_rest bytes rest t u h g =
    let first : parts_at (bytes ++ rest) ≡ Some (t, rest) = ap (λ (v : List ℕ). parts_at (v ++ rest)) h.text ∙ parts_again t rest (thunk_readable t h.rules) in
    let second : parts_at (bytes ++ rest) ≡ Some (u, []) = ap parts_at (g.text ∙ sym (append-nil (text_of u))) ∙ parts_again u [] (thunk_readable u g.rules) in
    ap (λ (v : Parts × List ℕ). v.1) (same_Some (t, rest) (u, []) (sym first ∙ second))
