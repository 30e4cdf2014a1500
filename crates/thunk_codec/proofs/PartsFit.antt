-- Parts that keep the rules and whose lines are short make a thunk, whatever REFs stand in them.
use Rattle.std.proofs.Common.{◌≡◌, ◌≤◌, ◌<◌, ◌+◌, ◌^◌, ℕ, Bool, true, false, ◌&&◌, leb, List, [], ◌∷◌, ◌++◌, length, map, refl, sym, ap, subst, ◌∙◌, arith, length-append, decimal}
use Rattle.std.specs.Prelude.{sum_by}
use Rattle.std.specs.List.{flat_map, list_all, AllByRecursion}
use Rattle.std.proofs.lemmas.Bool.{and_parts, and_from, false≢true, false_from_ne_true}
use Rattle.std.proofs.lemmas.Fmt.{length-decimal-le}
use Rattle.std.proofs.lemmas.List.{length-map}
use Rattle.std.proofs.lemmas.List.Sums.{sum_by-cons}
use Rattle.std.proofs.lemmas.List.Concat.{flat_map-cons}
use Rattle.object_name.specs.Name.{max_size, spelling}
use Rattle.object_name.proofs.PublicLaws.{length-spelling}
use Rattle.thunk_codec.specs.declared.reference.Ref.{Ref}
use Rattle.thunk_codec.specs.declared.reference.Ref.TheVariants.{Value, Out}
use Rattle.thunk_codec.specs.Fitting.{AreFit, unknown_ref, unreferring, paths_bound, outputs_bound, text_bound}
use Rattle.thunk_codec.specs.Path.{is_path}
use Rattle.thunk_codec.specs.Reference.{IsRef, ref_text}
use Rattle.thunk_codec.specs.Thunk.{Parts, counted, arg_line, env_line, input_line, output_line, function_line, end_line, text_of, keeps_numbers, keeps_bytes, keeps_orders, keeps_rules, is_strictly_increasing, are_distinct}
use Rattle.thunk_codec.proofs.Folders.{path_parts}
use Rattle.thunk_codec.proofs.Lengths.{length-line}
use Rattle.thunk_codec.proofs.RulesKept.{Keeps, rules_kept, kept_rules}

-- ---- how long the lines are

ref_len : (r : Ref) → IsRef r → length (ref_text r) ≤ 63
ref_len (Value name) h = omega (arith, length-spelling name h.0)
ref_len (Out name index) h =
    let below = h.2 in
    let number = length-decimal-le 10 index (omega arith) (omega (arith, below)) (omega (arith, below)) in
    omega (arith, length-spelling name h.0, number, length-append (spelling name) (35 ∷ decimal index))

-- bytes after their number, which has at most so many digits
counted_len : (digits : ℕ) (bytes : List ℕ) → 0 < digits → length bytes < 10 ^ digits → length bytes < 2 ^ 64 → length (counted bytes) ≤ digits + (1 + length bytes)
counted_len digits bytes some few small =
    let number = length-decimal-le digits (length bytes) some few small in
    omega (arith, number, length-append (decimal (length bytes)) (58 ∷ bytes))

-- a path has four digits at most
counted_path : (path : List ℕ) → is_path path ≡ true → length (counted path) ≤ 5 + length path
counted_path path h =
    let short = (path_parts path h).short in
    let all = counted_len 4 path (omega arith) (omega (arith, short)) (omega (arith, short)) in
    omega (arith, all)

-- a text that is no longer than an object has eight
counted_text : (bytes : List ℕ) → length bytes ≤ max_size → length (counted bytes) ≤ 9 + length bytes
counted_text bytes h =
    let all = counted_len 8 bytes (omega arith) (omega (arith, h)) (omega (arith, h)) in
    omega (arith, all)

arg_len : (arg : List ℕ) → 12 + length arg ≤ max_size → length (arg_line arg) ≤ 12 + length arg
arg_len arg h = omega (arith, length-line 97 (counted arg), counted_text arg (omega (arith, h)))

env_len : (env : List ℕ × List ℕ) → 13 + length env.0 + length env.1 ≤ max_size → length (env_line env) ≤ 13 + length env.0 + length env.1
env_len env h =
    let said : length (env.0 ++ 61 ∷ env.1) ≡ length env.0 + (1 + length env.1) = length-append env.0 (61 ∷ env.1) ∙ omega arith in
    omega (arith, length-line 101 (counted (env.0 ++ 61 ∷ env.1)), said, counted_text (env.0 ++ 61 ∷ env.1) (omega (arith, said, h)))

-- lines that are no longer than so much each are no longer than that together
lines_len : {A : Type 0} (said : A → List ℕ) (bound : A → ℕ) → ((x : A) → bound x ≤ max_size → length (said x) ≤ bound x) → (xs : List A) → sum_by bound xs ≤ max_size
    → length (flat_map said xs) ≤ sum_by bound xs
lines_len said bound one [] h = omega arith
lines_len said bound one (x ∷ xs) h =
    let sum = sum_by-cons bound x xs in
    let lines = ap length (flat_map-cons said x xs) ∙ length-append (said x) (flat_map said xs) in
    let first = one x (omega (arith, h, sum)) in
    let others = lines_len said bound one xs (omega (arith, h, sum)) in
    omega (arith, sum, lines, first, others)

input_len : (input : List ℕ × Ref) → is_path input.0 ≡ true → IsRef input.1 → length (input_line input) ≤ 72 + length input.0
input_len input path ref =
    let said = length-append (counted input.0) (32 ∷ ref_text input.1) in
    omega (arith, length-line 105 (counted input.0 ++ 32 ∷ ref_text input.1), said, counted_path input.0 path, ref_len input.1 ref)

inputs_len : (inputs : List (List ℕ × Ref)) → list_all is_path (map (λ input. input.0) inputs) ≡ true → AllByRecursion IsRef (map (λ input. input.1) inputs)
    → length (flat_map input_line inputs) ≤ paths_bound (map (λ input. input.0) inputs)
inputs_len [] paths refs = omega arith
inputs_len (input ∷ inputs) paths refs =
    let parts = and_parts (is_path input.0) (list_all is_path (map (λ i. i.0) inputs)) paths in
    let sum = sum_by-cons (λ (path : List ℕ). 72 + length path) input.0 (map (λ i. i.0) inputs) in
    let lines = ap length (flat_map-cons input_line input inputs) ∙ length-append (input_line input) (flat_map input_line inputs) in
    omega (arith, sum, lines, input_len input parts.0 refs.0, inputs_len inputs parts.1 refs.1)

output_len : (output : List ℕ) → is_path output ≡ true → length (output_line output) ≤ 8 + length output
output_len output path = omega (arith, length-line 111 (counted output), counted_path output path)

outputs_len : (outputs : List (List ℕ)) → list_all is_path outputs ≡ true → length (flat_map output_line outputs) ≤ outputs_bound outputs
outputs_len [] paths = omega arith
outputs_len (output ∷ outputs) paths =
    let parts = and_parts (is_path output) (list_all is_path outputs) paths in
    let sum = sum_by-cons (λ (path : List ℕ). 8 + length path) output outputs in
    let lines = ap length (flat_map-cons output_line output outputs) ∙ length-append (output_line output) (flat_map output_line outputs) in
    omega (arith, sum, lines, output_len output parts.0, outputs_len outputs parts.1)

-- the length of a text, by the lengths of its lines
text_len : (t : Parts) → length (text_of t) ≡ 15 + (length (function_line t.function) + (length (flat_map arg_line t.args) + (length (flat_map env_line t.envs)
    + (length (flat_map input_line t.inputs) + length (flat_map output_line t.outputs)))))
unfolding text_of
text_len t =
    let outputs = length-append (flat_map output_line t.outputs) end_line in
    let inputs = length-append (flat_map input_line t.inputs) (flat_map output_line t.outputs ++ end_line) in
    let envs = length-append (flat_map env_line t.envs) (flat_map input_line t.inputs ++ (flat_map output_line t.outputs ++ end_line)) in
    let args = length-append (flat_map arg_line t.args) (flat_map env_line t.envs ++ (flat_map input_line t.inputs ++ (flat_map output_line t.outputs ++ end_line))) in
    let function = length-append (function_line t.function) (flat_map arg_line t.args ++ (flat_map env_line t.envs ++ (flat_map input_line t.inputs ++ (flat_map output_line t.outputs ++ end_line)))) in
    omega (arith, outputs, inputs, envs, args, function)

-- ---- the rules don't look at REFs

paths_again : (paths : List (List ℕ)) → map (λ (input : List ℕ × Ref). input.0) (map (λ path. (path, unknown_ref)) paths) ≡ paths
paths_again [] = refl
paths_again (path ∷ paths) = ap (λ rest. path ∷ rest) (paths_again paths)

module _ (args : List (List ℕ)) (envs : List (List ℕ × List ℕ)) (paths outputs : List (List ℕ)) where
  abbrev form : Parts
  form = unreferring args envs paths outputs

  numbers_are : keeps_numbers form ≡ (leb (length paths) 4096 && (leb 1 (length outputs) && leb (length outputs) 64))
  numbers_are = ap (λ n. leb n 4096 && (leb 1 (length outputs) && leb (length outputs) 64)) (length-map paths (λ (path : List ℕ). (path, unknown_ref)))

  orders_are : keeps_orders form ≡ (is_strictly_increasing (map (λ env. env.0) envs) && (is_strictly_increasing paths && are_distinct outputs))
  orders_are = ap (λ ps. is_strictly_increasing (map (λ env. env.0) envs) && (is_strictly_increasing ps && are_distinct outputs)) (paths_again paths)

  -- a rule that fails
  pub rule_fails : (test : Bool) → (Keeps form → test ≡ true) → test ≡ false → false ≡ keeps_rules form
  rule_fails test needs fails = sym (false_from_ne_true (keeps_rules form) (λ h. false≢true (sym fails ∙ needs (rules_kept form h))))

  -- the rules on inputs and outputs of a form that keeps the rules
  pub orders_kept : Keeps form → (is_strictly_increasing (map (λ env. env.0) envs) ≡ true) × ((is_strictly_increasing paths ≡ true) × (are_distinct outputs ≡ true))
  orders_kept kept =
      let parts = and_parts (is_strictly_increasing (map (λ env. env.0) envs)) (is_strictly_increasing paths && are_distinct outputs) (sym orders_are ∙ kept.orders) in
      (parts.0, and_parts (is_strictly_increasing paths) (are_distinct outputs) parts.1)

  pub numbers_kept : Keeps form → (leb (length paths) 4096 && (leb 1 (length outputs) && leb (length outputs) 64)) ≡ true
  numbers_kept kept = sym numbers_are ∙ kept.numbers

  pub all_kept : (leb (length paths) 4096 && (leb 1 (length outputs) && leb (length outputs) 64)) ≡ true → keeps_bytes form ≡ true
      → is_strictly_increasing (map (λ env. env.0) envs) ≡ true → is_strictly_increasing paths ≡ true → are_distinct outputs ≡ true
      → list_all is_path paths ≡ true → list_all is_path outputs ≡ true → keeps_rules form ≡ true
  all_kept numbers bytes keys rise distinct input_paths output_paths = kept_rules form (record {
    numbers = numbers_are ∙ numbers;
    bytes = bytes;
    orders = orders_are ∙ and_from _ _ keys (and_from _ _ rise distinct);
    inputs = ap (list_all is_path) (paths_again paths) ∙ input_paths;
    outputs = output_paths;
  })

  -- the last of the rules decides where the others are kept
  pub last_rule : (leb (length paths) 4096 && (leb 1 (length outputs) && leb (length outputs) 64)) ≡ true → keeps_bytes form ≡ true
      → is_strictly_increasing (map (λ env. env.0) envs) ≡ true → is_strictly_increasing paths ≡ true
      → list_all is_path paths ≡ true → list_all is_path outputs ≡ true → are_distinct outputs ≡ keeps_rules form
  last_rule numbers bytes keys rise input_paths output_paths = by (are_distinct outputs) refl
    where
      by : (b : Bool) → are_distinct outputs ≡ b → are_distinct outputs ≡ keeps_rules form
      by true is = is ∙ sym (all_kept numbers bytes keys rise is input_paths output_paths)
      by false is = is ∙ rule_fails (are_distinct outputs) (λ kept. (orders_kept kept).1.1) is

  -- ---- and so the parts fit

  pub parts-fit : keeps_rules (unreferring args envs paths outputs) ≡ true → text_bound args envs paths outputs ≤ max_size → AreFit args envs paths outputs
  parts-fit h bound = λ function inputs same ref refs.
      let kept = rules_kept form h in
      let orders = orders_kept kept in
      let count : length inputs ≡ length paths = sym (length-map inputs (λ (input : List ℕ × Ref). input.0)) ∙ ap length same in
      let input_paths : list_all is_path (map (λ input. input.0) inputs) ≡ true = ap (list_all is_path) same ∙ (sym (ap (list_all is_path) (paths_again paths)) ∙ kept.inputs) in
      let t : Parts = record { function = function; args = args; envs = envs; inputs = inputs; outputs = outputs } in
      record {
        function = ref;
        input_refs = refs;
        rules = kept_rules t (record {
          numbers = ap (λ n. leb n 4096 && (leb 1 (length outputs) && leb (length outputs) 64)) count ∙ numbers_kept kept;
          bytes = kept.bytes;
          orders = ap (λ ps. is_strictly_increasing (map (λ env. env.0) envs) && (is_strictly_increasing ps && are_distinct outputs)) same ∙ and_from _ _ orders.0 (and_from _ _ orders.1.0 orders.1.1);
          inputs = input_paths;
          outputs = kept.outputs;
        });
        size =
            let function_is = length-line 102 (ref_text function) in
            let inputs_are : length (flat_map input_line inputs) ≤ paths_bound paths = subst (λ (ps : List (List ℕ)). length (flat_map input_line inputs) ≤ paths_bound ps) same (inputs_len inputs input_paths refs) in
            let args_are = lines_len arg_line (λ (arg : List ℕ). 12 + length arg) arg_len args (omega (arith, bound)) in
            let envs_are = lines_len env_line (λ (env : List ℕ × List ℕ). 13 + length env.0 + length env.1) env_len envs (omega (arith, bound)) in
            omega (arith, text_len t, function_is, ref_len function ref, args_are, envs_are, inputs_are, outputs_len outputs kept.outputs, bound);
      }
