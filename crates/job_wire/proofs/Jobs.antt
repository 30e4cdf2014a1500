-- A job's encoding is read as the job, and nothing else is.
use Rattle.std.proofs.Common.{◌≡◌, ℕ, ◌+◌, ◌^◌, ◌<◌, ◌≤◌, true, List, [], ◌∷◌, ◌++◌, length, Some, refl, sym, ap, subst, ◌∙◌, append_assoc, arith}
use Rattle.std.specs.Prelude.{bytes_eq}
use Rattle.std.specs.List.{flat_map, list_all, AllByRecursion}
use Rattle.std.proofs.lemmas.Bool.{and_parts, and_from}
use Rattle.std.proofs.lemmas.List.{length-append, append-nil}
use Rattle.std.proofs.lemmas.List.Concat.{flat_map-cons}
use Rattle.std.proofs.lemmas.Option.{same_Some}
use Rattle.std.proofs.lemmas.Slice.Eq.{bytes_eq-Decides}
use Rattle.text_lines.specs.Maybe.{◌>>◌, bind_some, test_some}
use Rattle.thunk_codec.specs.declared.job.Job.{Job}
use Rattle.thunk_codec.specs.Job.{encoded_count, encoded_string, encoded_pair, job_encoding, job_keeps_rules, job_size, max_job}
use Rattle.thunk_codec.specs.Path.{is_path}
use Rattle.job_wire.specs.Frame.{IsBytes, IsJob}
use Rattle.job_wire.specs.Reading.{string_at, path_at, pair_at, list_at, job_at, job_of}
use Rattle.job_wire.proofs.Fields.{Takes, IsShort, IsShortPath, string_reader, path_reader, pair_reader, list_reader}

-- ---- the parts are short

first_and_others : {A : Type 0} (f : A → List ℕ) (x : A) (xs : List A) → length (flat_map f (x ∷ xs)) ≡ length (f x) + length (flat_map f xs)
first_and_others f x xs = ap length (flat_map-cons f x xs) ∙ length-append (f x) (flat_map f xs)

-- there are no more things than bytes
few : {A : Type 0} (f : A → List ℕ) → ((x : A) → 1 ≤ length (f x)) → (xs : List A) → length xs ≤ length (flat_map f xs)
few f some [] = omega arith
few f some (x ∷ xs) = omega (arith, some x, few f some xs, first_and_others f x xs)

-- the parts of a job are short enough for counts
pub record HasShortParts (job : Job) : Type 0 where
  pub function : IsShort job.function
  pub args : length job.args < 2 ^ 32
  pub args_size : length (flat_map encoded_string job.args) < 2 ^ 32
  pub envs : length job.envs < 2 ^ 32
  pub envs_size : length (flat_map encoded_pair job.envs) < 2 ^ 32
  pub inputs : length job.inputs < 2 ^ 32
  pub inputs_size : length (flat_map encoded_pair job.inputs) < 2 ^ 32
  pub outputs : length job.outputs < 2 ^ 32
  pub outputs_size : length (flat_map encoded_string job.outputs) < 2 ^ 32

pub short_parts : (job : Job) → job_size job ≤ max_job → HasShortParts job
unfolding job_encoding
short_parts job small =
    let whole = simp length-append at small in
    record {
      function = omega (arith, whole);
      args = omega (arith, whole, few encoded_string (λ x. omega arith) job.args);
      args_size = omega (arith, whole);
      envs = omega (arith, whole, few encoded_pair (λ x. omega arith) job.envs);
      envs_size = omega (arith, whole);
      inputs = omega (arith, whole, few encoded_pair (λ x. omega arith) job.inputs);
      inputs_size = omega (arith, whole);
      outputs = omega (arith, whole, few encoded_string (λ x. omega arith) job.outputs);
      outputs_size = omega (arith, whole);
    }

pub strings_short : (texts : List (List ℕ)) → length (flat_map encoded_string texts) < 2 ^ 32 → AllByRecursion IsShort texts
strings_short [] h = tt
strings_short (text ∷ texts) h =
    let both = first_and_others encoded_string text texts in
    (omega (arith, h, both), strings_short texts (omega (arith, h, both)))

pairs_short : (pairs : List (List ℕ × List ℕ)) → length (flat_map encoded_pair pairs) < 2 ^ 32 → AllByRecursion (λ pair. IsShort pair.0 × IsShort pair.1) pairs
pairs_short [] h = tt
pairs_short (pair ∷ pairs) h =
    let both = first_and_others encoded_pair pair pairs in
    let two = length-append (encoded_string pair.0) (encoded_string pair.1) in
    ((omega (arith, h, both, two), omega (arith, h, both, two)), pairs_short pairs (omega (arith, h, both)))

inputs_short : (inputs : List (List ℕ × List ℕ)) → length (flat_map encoded_pair inputs) < 2 ^ 32 → list_all (λ input. is_path input.0) inputs ≡ true → AllByRecursion (λ input. IsShortPath input.0 × IsShort input.1) inputs
inputs_short [] h paths = tt
inputs_short (input ∷ inputs) h paths =
    let both = first_and_others encoded_pair input inputs in
    let two = length-append (encoded_string input.0) (encoded_string input.1) in
    let parts = and_parts (is_path input.0) (list_all (λ x. is_path x.0) inputs) paths in
    (((omega (arith, h, both, two), parts.0), omega (arith, h, both, two)), inputs_short inputs (omega (arith, h, both)) parts.1)

outputs_short : (outputs : List (List ℕ)) → length (flat_map encoded_string outputs) < 2 ^ 32 → list_all is_path outputs ≡ true → AllByRecursion IsShortPath outputs
outputs_short [] h paths = tt
outputs_short (output ∷ outputs) h paths =
    let both = first_and_others encoded_string output outputs in
    let parts = and_parts (is_path output) (list_all is_path outputs) paths in
    ((omega (arith, h, both), parts.0), outputs_short outputs (omega (arith, h, both)) parts.1)

input_paths : (inputs : List (List ℕ × List ℕ)) → AllByRecursion (λ input. IsShortPath input.0 × IsShort input.1) inputs → list_all (λ input. is_path input.0) inputs ≡ true
input_paths [] h = refl
input_paths (input ∷ inputs) h = and_from _ _ h.0.0.1 (input_paths inputs h.1)

output_paths : (outputs : List (List ℕ)) → AllByRecursion IsShortPath outputs → list_all is_path outputs ≡ true
output_paths [] h = refl
output_paths (output ∷ outputs) h = and_from _ _ h.0.1 (output_paths outputs h.1)

-- ---- the parts one after another

abbrev listed : {A : Type 0} → (A → List ℕ) → List A → List ℕ
listed spelled xs = encoded_count (length xs) ++ flat_map spelled xs

grouped : (f a b c d e g h i r : List ℕ) → (f ++ (a ++ (b ++ (c ++ (d ++ (e ++ (g ++ (h ++ i)))))))) ++ r ≡ f ++ ((a ++ b) ++ ((c ++ d) ++ ((e ++ g) ++ ((h ++ i) ++ r))))
grouped f a b c d e g h i r = simp append_assoc

-- the encoding, list by list
by_lists : (job : Job) (rest : List ℕ) → job_encoding job ++ rest ≡ encoded_string job.function ++ (listed encoded_string job.args ++ (listed encoded_pair job.envs ++ (listed encoded_pair job.inputs ++ (listed encoded_string job.outputs ++ rest))))
unfolding job_encoding
by_lists job rest =
    grouped (encoded_string job.function) (encoded_count (length job.args)) (flat_map encoded_string job.args) (encoded_count (length job.envs)) (flat_map encoded_pair job.envs) (encoded_count (length job.inputs)) (flat_map encoded_pair job.inputs) (encoded_count (length job.outputs)) (flat_map encoded_string job.outputs) rest

-- a job's paths are normal
abbrev pub HasPaths : Job → Type 0
HasPaths job = (list_all (λ input. is_path input.0) job.inputs ≡ true) × (list_all is_path job.outputs ≡ true)

pub job_takes : (bytes : List ℕ) (x : Job × List ℕ) → IsBytes bytes → job_at bytes ≡ Some x → Takes bytes (job_encoding x.0) x.1 × HasPaths x.0
unfolding job_at
job_takes bytes x fits e =
    let a = bind_some (string_at bytes) _ x e in
    let b = bind_some (list_at string_at a.0.1) _ x a.2 in
    let c = bind_some (list_at (pair_at string_at string_at) b.0.1) _ x b.2 in
    let d = bind_some (list_at (pair_at path_at string_at) c.0.1) _ x c.2 in
    let f = bind_some (list_at path_at d.0.1) _ x d.2 in
    let job : Job = record { function = a.0.0; args = b.0.0; envs = c.0.0; inputs = d.0.0; outputs = f.0.0 } in
    let t = string_reader.takes bytes a.0 fits a.1 in
    let u = (list_reader string_reader).takes a.0.1 b.0 t.0.rest_fits b.1 in
    let v = (list_reader (pair_reader string_reader string_reader)).takes b.0.1 c.0 u.0.rest_fits c.1 in
    let w = (list_reader (pair_reader path_reader string_reader)).takes c.0.1 d.0 v.0.rest_fits d.1 in
    let z = (list_reader path_reader).takes d.0.1 f.0 w.0.rest_fits f.1 in
    let all : bytes ≡ job_encoding job ++ f.0.1 =
    t.0.parts ∙ ap (λ (l : List ℕ). encoded_string a.0.0 ++ l) (u.0.parts ∙ ap (λ (l : List ℕ). listed encoded_string b.0.0 ++ l) (v.0.parts ∙ ap (λ (l : List ℕ). listed encoded_pair c.0.0 ++ l) (w.0.parts ∙ ap (λ (l : List ℕ). listed encoded_pair d.0.0 ++ l) z.0.parts)))
    ∙ sym (by_lists job f.0.1) in
    subst (λ (l : Job × List ℕ). Takes bytes (job_encoding l.0) l.1 × HasPaths l.0) (same_Some _ x f.2)
    (record { parts = all; rest_fits = z.0.rest_fits }, (input_paths d.0.0 w.1.1, output_paths f.0.0 z.1.1))

pub job_again : (job : Job) (rest : List ℕ) → HasPaths job → HasShortParts job → job_at (job_encoding job ++ rest) ≡ Some (job, rest)
unfolding job_at
job_again job rest paths short =
    let after_inputs = listed encoded_string job.outputs ++ rest in
    let after_envs = listed encoded_pair job.inputs ++ after_inputs in
    let after_args = listed encoded_pair job.envs ++ after_envs in
    let after_function = listed encoded_string job.args ++ after_args in
    let function = string_reader.again job.function after_function short.function in
    let args = (list_reader string_reader).again job.args after_args (short.args, strings_short job.args short.args_size) in
    let envs = (list_reader (pair_reader string_reader string_reader)).again job.envs after_envs (short.envs, pairs_short job.envs short.envs_size) in
    let inputs = (list_reader (pair_reader path_reader string_reader)).again job.inputs after_inputs (short.inputs, inputs_short job.inputs short.inputs_size paths.0) in
    let outputs = (list_reader path_reader).again job.outputs rest (short.outputs, outputs_short job.outputs short.outputs_size paths.1) in
    ap job_at (by_lists job rest) ∙ rw (function, args, envs, inputs, outputs) refl

-- ---- the whole

pub job_of-encoding : (bytes : List ℕ) (job : Job) → IsBytes bytes → length bytes ≤ max_job → job_of bytes ≡ Some job → (bytes ≡ job_encoding job) × IsJob job
unfolding job_of
job_of-encoding bytes job fits small e =
    let a = bind_some (job_at bytes) (λ read. bytes_eq read.1 [] >> (job_keeps_rules read.0 >> Some read.0)) job e in
    let b = test_some (bytes_eq a.0.1 []) (job_keeps_rules a.0.0 >> Some a.0.0) job a.2 in
    let c = test_some (job_keeps_rules a.0.0) (Some a.0.0) job b.1 in
    let taken = job_takes bytes a.0 fits a.1 in
    let nothing : a.0.1 ≡ [] = (bytes_eq-Decides a.0.1 []).0 b.0 in
    let text : bytes ≡ job_encoding a.0.0 = taken.0.parts ∙ ap (λ (v : List ℕ). job_encoding a.0.0 ++ v) nothing ∙ append-nil (job_encoding a.0.0) in
    subst (λ (v : Job). (bytes ≡ job_encoding v) × IsJob v) (same_Some a.0.0 job c.1)
    (text, record { input_paths = taken.1.0; output_paths = taken.1.1; rules = c.0; size = subst (λ (v : List ℕ). length v ≤ max_job) text small })

pub encoding-job_of : (job : Job) → IsJob job → job_of (job_encoding job) ≡ Some job
unfolding job_of
encoding-job_of job h =
    let read : job_at (job_encoding job) ≡ Some (job, []) = ap job_at (sym (append-nil (job_encoding job))) ∙ job_again job [] (h.input_paths, h.output_paths) (short_parts job h.size) in
    let rules : job_keeps_rules job ≡ true = h.rules in
    rw (read, rules) refl

-- ---- writing

grouped_out : (o f a b c d e g h i : List ℕ) → ((((o ++ f) ++ (a ++ b)) ++ (c ++ d)) ++ (e ++ g)) ++ (h ++ i) ≡ o ++ (f ++ (a ++ (b ++ (c ++ (d ++ (e ++ (g ++ (h ++ i))))))))
grouped_out o f a b c d e g h i = simp append_assoc

-- the encoding, as it is written list by list
pub job_written : (job : Job) (o0 o1 o2 o3 o4 o5 : List ℕ) → o1 ≡ o0 ++ encoded_string job.function → o2 ≡ o1 ++ listed encoded_string job.args → o3 ≡ o2 ++ listed encoded_pair job.envs → o4 ≡ o3 ++ listed encoded_pair job.inputs → o5 ≡ o4 ++ listed encoded_string job.outputs
    → o5 ≡ o0 ++ job_encoding job
unfolding job_encoding
job_written job o0 o1 o2 o3 o4 o5 e1 e2 e3 e4 e5 =
    e5 ∙ ap (λ (v : List ℕ). v ++ listed encoded_string job.outputs) (e4 ∙ ap (λ (v : List ℕ). v ++ listed encoded_pair job.inputs) (e3 ∙ ap (λ (v : List ℕ). v ++ listed encoded_pair job.envs) (e2 ∙ ap (λ (v : List ℕ). v ++ listed encoded_string job.args) e1)))
    ∙ grouped_out o0 (encoded_string job.function) (encoded_count (length job.args)) (flat_map encoded_string job.args) (encoded_count (length job.envs)) (flat_map encoded_pair job.envs) (encoded_count (length job.inputs)) (flat_map encoded_pair job.inputs) (encoded_count (length job.outputs)) (flat_map encoded_string job.outputs)
