-- How long the encoding of a thunk's job is, and that the length is small.
use Rattle.std.proofs.Common.{◌≡◌, ℕ, ◌+◌, ◌*◌, ◌^◌, ◌<◌, ◌≤◌, List, [], ◌∷◌, ◌++◌, length, map, refl, sym, ap, subst, ◌∙◌, arith, length-append, rules}
use Rattle.std.specs.Prelude.{sum_by}
use Rattle.std.specs.List.{flat_map, AllByRecursion}
use Rattle.std.proofs.lemmas.List.{length-map}
use Rattle.std.proofs.lemmas.List.Sums.{sum_by-cons, sum_by-le-sum_by}
use Rattle.std.proofs.lemmas.List.Concat.{flat_map-cons, length-flat_map}
use Rattle.object_name.specs.Name.{max_size}
use Rattle.thunk_codec.specs.declared.job.Job.{Job}
use Rattle.thunk_codec.specs.declared.reference.Ref.{Ref}
use Rattle.thunk_codec.specs.declared.reference.Ref.TheVariants.{Value, Out}
use Rattle.thunk_codec.specs.Reference.{IsRef}
use Rattle.thunk_codec.proofs.RulesKept.{few_inputs}
use Rattle.thunk_codec.specs.Thunk.{Parts, IsThunk, text_of, line, counted, arg_line, env_line, input_line, output_line}
use Rattle.thunk_codec.specs.Resolved.{OfThunk, HaveObjectLengths}
use Rattle.thunk_codec.specs.Job.{encoded_string, encoded_pair, job_encoding, job_size, size_by_lengths, resolved_size, ref_name}

-- sums of terms that are equal one by one
pub sum_by-same : {X : Type 0} (f g : X → ℕ) → ((x : X) → f x ≡ g x) → (xs : List X) → sum_by f xs ≡ sum_by g xs
sum_by-same f g same [] = refl
sum_by-same f g same (x ∷ xs) = omega (arith, sum_by-cons f x xs, sum_by-cons g x xs, same x, sum_by-same f g same xs)

-- a sum over a mapped list
pub sum_by-map : {X Y : Type 0} (f : Y → ℕ) (g : X → Y) (xs : List X) → sum_by f (map g xs) ≡ sum_by (λ x. f (g x)) xs
sum_by-map f g [] = refl
sum_by-map f g (x ∷ xs) = omega (arith, sum_by-cons f (g x) (map g xs), sum_by-cons (λ x. f (g x)) x xs, sum_by-map f g xs)

length-string : (bytes : List ℕ) → length (encoded_string bytes) ≡ 4 + length bytes
length-string bytes = omega (arith, length-append {A = ℕ})

length-string_pair : (pair : List ℕ × List ℕ) → length (encoded_pair pair) ≡ 8 + length pair.0 + length pair.1
length-string_pair pair = omega (arith, length-append (encoded_string pair.0) (encoded_string pair.1), length-string pair.0, length-string pair.1)

strings : (texts : List (List ℕ)) → length (flat_map encoded_string texts) ≡ sum_by (λ text. 4 + length text) texts
strings texts = length-flat_map encoded_string texts ∙ sum_by-same (λ text. length (encoded_string text)) (λ text. 4 + length text) length-string texts

string_pairs : (pairs : List (List ℕ × List ℕ)) → length (flat_map encoded_pair pairs) ≡ sum_by (λ pair. 8 + length pair.0 + length pair.1) pairs
string_pairs pairs = length-flat_map encoded_pair pairs ∙ sum_by-same (λ pair. length (encoded_pair pair)) (λ pair. 8 + length pair.0 + length pair.1) length-string_pair pairs

-- the length of a job's encoding, by lengths
pub job_size_by_lengths : (j : Job) → job_size j ≡ size_by_lengths (length j.function) j.args j.envs (map (λ input. (input.0, length input.1)) j.inputs) j.outputs
unfolding job_encoding size_by_lengths
job_size_by_lengths j =
    let inputs-is = sum_by-map (λ (input : List ℕ × ℕ). 8 + length input.0 + input.1) (λ (input : List ℕ × List ℕ). (input.0, length input.1)) j.inputs in
    simp length-append (omega (arith, length-string j.function, strings j.args, string_pairs j.envs, string_pairs j.inputs, strings j.outputs, inputs-is))

-- ---- the sums of a thunk are below the limits of numbers

pub length-arg_line : (arg : List ℕ) → 4 + length arg ≤ length (arg_line arg)
length-arg_line arg = simp length-append (omega arith)

line_args : (args : List (List ℕ)) → sum_by (λ arg. 4 + length arg) args ≤ length (flat_map arg_line args)
line_args args = rw length-flat_map (sum_by-le-sum_by (λ (arg : List ℕ). 4 + length arg) (λ arg. length (arg_line arg)) args length-arg_line)

pub length-output_line : (output : List ℕ) → 4 + length output ≤ length (output_line output)
length-output_line output = simp length-append (omega arith)

line_outputs : (outputs : List (List ℕ)) → sum_by (λ output. 4 + length output) outputs ≤ length (flat_map output_line outputs)
line_outputs outputs = rw length-flat_map (sum_by-le-sum_by (λ (output : List ℕ). 4 + length output) (λ output. length (output_line output)) outputs length-output_line)

pub length-line : (letter : ℕ) (said : List ℕ) → length (line letter said) ≡ 3 + length said
length-line letter said = simp length-append (omega arith)

pub length-counted : (bytes : List ℕ) → 1 + length bytes ≤ length (counted bytes)
length-counted bytes = simp length-append (omega arith)

length-env_line : (env : List ℕ × List ℕ) → 5 + length env.0 + length env.1 ≤ length (env_line env)
length-env_line env =
    let said : length (env.0 ++ 61 ∷ env.1) ≡ length env.0 + (1 + length env.1) = length-append env.0 (61 ∷ env.1) ∙ omega arith in
    omega (arith, length-line 101 (counted (env.0 ++ 61 ∷ env.1)), length-counted (env.0 ++ 61 ∷ env.1), said)

line_envs : (envs : List (List ℕ × List ℕ)) → sum_by (λ env. 8 + length env.0 + length env.1) envs ≤ 2 * length (flat_map env_line envs)
line_envs [] = omega arith
line_envs (env ∷ envs) =
    let head = sum_by-cons (λ (e : List ℕ × List ℕ). 8 + length e.0 + length e.1) env envs in
    let lines = ap length (flat_map-cons env_line env envs) ∙ length-append (env_line env) (flat_map env_line envs) in
    omega (arith, head, lines, length-env_line env, line_envs envs)

pub length-input_line : (input : List ℕ × Ref) → 5 + length input.0 ≤ length (input_line input)
length-input_line input = simp length-append (omega arith)

pub ref_size : (r : Ref) → IsRef r → (ref_name r).size ≤ max_size
ref_size (Value name) h = h.0.size
ref_size (Out name index) h = h.0.size

line_inputs : (inputs : List (List ℕ × Ref)) → AllByRecursion IsRef (map (λ input. input.1) inputs)
    → sum_by (λ input. 8 + length input.0 + (ref_name input.1).size) inputs ≤ length (flat_map input_line inputs) + length inputs * 16777219
line_inputs [] refs = omega arith
line_inputs (input ∷ inputs) refs =
    let head = sum_by-cons (λ (i : List ℕ × Ref). 8 + length i.0 + (ref_name i.1).size) input inputs in
    let lines = ap length (flat_map-cons input_line input inputs) ∙ length-append (input_line input) (flat_map input_line inputs) in
    omega (arith, head, lines, length-input_line input, line_inputs inputs refs.1, ref_size input.1 refs.0)

-- the sums of which a thunk's size is made are small
pub record IsSmall (t : Parts) : Type 0 where
  pub function : (ref_name t.function).size ≤ 16777216
  pub args : sum_by (λ arg. 4 + length arg) t.args < 2 ^ 40
  pub envs : sum_by (λ env. 8 + length env.0 + length env.1) t.envs < 2 ^ 40
  pub inputs : sum_by (λ input. 8 + length input.0 + (ref_name input.1).size) t.inputs < 2 ^ 40
  pub outputs : sum_by (λ output. 4 + length output) t.outputs < 2 ^ 40

pub thunk_is_small : (t : Parts) → IsThunk t → IsSmall t
unfolding text_of
thunk_is_small t rules =
    let whole = simp length-append at rules.size in
    record {
      function = ref_size t.function rules.function;
      args = omega (arith, whole, line_args t.args);
      envs = omega (arith, whole, line_envs t.envs);
      inputs = omega (arith, whole, line_inputs t.inputs rules.input_refs, few_inputs t rules.rules);
      outputs = omega (arith, whole, line_outputs t.outputs);
    }

-- the size is the sum of these sums
pub resolved_size_is : (t : Parts) → resolved_size t ≡ 20 + (ref_name t.function).size + sum_by (λ arg. 4 + length arg) t.args
    + sum_by (λ env. 8 + length env.0 + length env.1) t.envs + sum_by (λ input. 8 + length input.0 + (ref_name input.1).size) t.inputs
    + sum_by (λ output. 4 + length output) t.outputs
unfolding resolved_size size_by_lengths
resolved_size_is t = rw (sum_by-map (λ (input : List ℕ × ℕ). 8 + length input.0 + input.1) (λ (input : List ℕ × Ref). (input.0, (ref_name input.1).size)) t.inputs) refl

-- ---- the sums of a job by the lengths of its objects are small

-- the lengths of the objects, apart from those of the paths
path_sum : (lengths : List (List ℕ × ℕ)) → HaveObjectLengths lengths
    → sum_by (λ input. 8 + length input.0 + input.1) lengths ≤ sum_by (λ path. 8 + length path) (map (λ input. input.0) lengths) + length lengths * 16777216
path_sum [] h = omega arith
path_sum (input ∷ lengths) h =
    let whole = sum_by-cons (λ (i : List ℕ × ℕ). 8 + length i.0 + i.1) input lengths in
    let paths = sum_by-cons (λ (path : List ℕ). 8 + length path) input.0 (map (λ i. i.0) lengths) in
    omega (arith, whole, paths, h.0, path_sum lengths h.1)

line_paths : (inputs : List (List ℕ × Ref)) → sum_by (λ path. 8 + length path) (map (λ input. input.0) inputs) ≤ length (flat_map input_line inputs) + length inputs * 3
line_paths [] = omega arith
line_paths (input ∷ inputs) =
    let paths = sum_by-cons (λ (path : List ℕ). 8 + length path) input.0 (map (λ i. i.0) inputs) in
    let lines = ap length (flat_map-cons input_line input inputs) ∙ length-append (input_line input) (flat_map input_line inputs) in
    omega (arith, paths, lines, length-input_line input, line_paths inputs)

-- the sums of which a job's length is made are small
pub record IsSmallJob (args : List (List ℕ)) (envs : List (List ℕ × List ℕ)) (inputs : List (List ℕ × ℕ)) (outputs : List (List ℕ)) : Type 0 where
  pub small_args : sum_by (λ arg. 4 + length arg) args < 2 ^ 36
  pub small_envs : sum_by (λ env. 8 + length env.0 + length env.1) envs < 2 ^ 36
  pub small_inputs : sum_by (λ input. 8 + length input.0 + input.1) inputs < 2 ^ 37
  pub small_outputs : sum_by (λ output. 4 + length output) outputs < 2 ^ 36

pub job_is_small : (args : List (List ℕ)) (envs : List (List ℕ × List ℕ)) (inputs : List (List ℕ × ℕ)) (outputs : List (List ℕ))
    → HaveObjectLengths inputs → OfThunk args envs (map (λ input. input.0) inputs) outputs → IsSmallJob args envs inputs outputs
unfolding text_of
job_is_small args envs inputs outputs objects parts =
    let t = parts.thunk in
    let whole = simp length-append at parts.rules.size in
    let count : length inputs ≡ length t.inputs = sym (length-map inputs (λ (i : List ℕ × ℕ). i.0)) ∙ ap length (sym parts.same_paths) ∙ length-map t.inputs (λ (i : List ℕ × Ref). i.0) in
    let paths : sum_by (λ path. 8 + length path) (map (λ input. input.0) inputs) ≤ length (flat_map input_line t.inputs) + length t.inputs * 3 =
    subst (λ (v : List (List ℕ)). sum_by (λ path. 8 + length path) v ≤ length (flat_map input_line t.inputs) + length t.inputs * 3) parts.same_paths (line_paths t.inputs) in
    record {
      small_args = subst (λ (v : List (List ℕ)). sum_by (λ arg. 4 + length arg) v < 2 ^ 36) parts.same_args (omega (arith, whole, line_args t.args));
      small_envs = subst (λ (v : List (List ℕ × List ℕ)). sum_by (λ env. 8 + length env.0 + length env.1) v < 2 ^ 36) parts.same_envs (omega (arith, whole, line_envs t.envs));
      small_inputs = omega (arith, whole, path_sum inputs objects, paths, count, few_inputs t parts.rules.rules);
      small_outputs = subst (λ (v : List (List ℕ)). sum_by (λ output. 4 + length output) v < 2 ^ 36) parts.same_outputs (omega (arith, whole, line_outputs t.outputs));
    }

-- so the length is, too
pub jobs_are_short : (function : ℕ) (args : List (List ℕ)) (envs : List (List ℕ × List ℕ)) (inputs : List (List ℕ × ℕ)) (outputs : List (List ℕ))
    → function ≤ max_size → HaveObjectLengths inputs → OfThunk args envs (map (λ input. input.0) inputs) outputs → size_by_lengths function args envs inputs outputs < 2 ^ 40
unfolding size_by_lengths
jobs_are_short function args envs inputs outputs small objects parts =
    let job = job_is_small args envs inputs outputs objects parts in
    omega (arith, small, job.small_args, job.small_envs, job.small_inputs, job.small_outputs)

pub size_by_lengths_is : (function : ℕ) (args : List (List ℕ)) (envs : List (List ℕ × List ℕ)) (inputs : List (List ℕ × ℕ)) (outputs : List (List ℕ))
    → size_by_lengths function args envs inputs outputs ≡ 20 + function + sum_by (λ arg. 4 + length arg) args + sum_by (λ env. 8 + length env.0 + length env.1) envs
    + sum_by (λ input. 8 + length input.0 + input.1) inputs + sum_by (λ output. 4 + length output) outputs
unfolding size_by_lengths
size_by_lengths_is function args envs inputs outputs = refl

-- the length of a job's encoding is the sum of these sums
pub job_size_is : (j : Job) → length (job_encoding j) ≡ 20 + length j.function + sum_by (λ arg. 4 + length arg) j.args
    + sum_by (λ env. 8 + length env.0 + length env.1) j.envs + sum_by (λ input. 8 + length input.0 + length input.1) j.inputs
    + sum_by (λ output. 4 + length output) j.outputs
unfolding size_by_lengths
job_size_is j = omega (arith, job_size_by_lengths j, sum_by-map (λ (input : List ℕ × ℕ). 8 + length input.0 + input.1) (λ (input : List ℕ × List ℕ). (input.0, length input.1)) j.inputs)
