-- What a thunk's parts are but for its REFs, and when they make a thunk whatever REFs stand in them.
use Rattle.std.specs.Prelude.{◌≡◌, ℕ, ◌+◌, List, [], length, map, sum_by}
use Rattle.std.specs.List.{AllByRecursion}
use Rattle.object_name.specs.Name.{name_of}
use Rattle.thunk_codec.specs.declared.reference.Ref.{Ref}
use Rattle.thunk_codec.specs.declared.reference.Ref.TheVariants.{Value}
use Rattle.thunk_codec.specs.Reference.{IsRef}
use Rattle.thunk_codec.specs.Thunk.{Parts, IsThunk}

-- arguments, an environment, the paths of inputs and of outputs fit: with any REFs they are the parts of a thunk
abbrev pub AreFit : List (List ℕ) → List (List ℕ × List ℕ) → List (List ℕ) → List (List ℕ) → Type 0
AreFit args envs paths outputs = (function : Ref) (inputs : List (List ℕ × Ref)) → map (λ input. input.0) inputs ≡ paths → IsRef function
    → AllByRecursion IsRef (map (λ input. input.1) inputs)
    → IsThunk (record { function = function; args = args; envs = envs; inputs = inputs; outputs = outputs })

-- a REF that stands where none is known yet
abbrev pub unknown_ref : Ref
unknown_ref = Value (name_of [])

-- the same parts with REFs of no meaning: the rules but for those on REFs and on length don't look at them
abbrev pub unreferring : List (List ℕ) → List (List ℕ × List ℕ) → List (List ℕ) → List (List ℕ) → Parts
unreferring args envs paths outputs = record {
  function = unknown_ref;
  args = args;
  envs = envs;
  inputs = map (λ path. (path, unknown_ref)) paths;
  outputs = outputs;
}

-- a bound of the lines of arguments: a letter, a space, eight digits, a colon and a line feed beside each
abbrev pub args_bound : List (List ℕ) → ℕ
args_bound args = sum_by (λ arg. 12 + length arg) args

-- a bound of the lines of an environment: one `=` more
abbrev pub envs_bound : List (List ℕ × List ℕ) → ℕ
envs_bound envs = sum_by (λ env. 13 + length env.0 + length env.1) envs

-- a bound of the lines of inputs: four digits, one space more, and a REF of at most 63 bytes
abbrev pub paths_bound : List (List ℕ) → ℕ
paths_bound paths = sum_by (λ path. 72 + length path) paths

-- a bound of the lines of outputs: four digits
abbrev pub outputs_bound : List (List ℕ) → ℕ
outputs_bound outputs = sum_by (λ output. 8 + length output) outputs

-- a bound of the text of a thunk with these parts, whatever its REFs: the other lines are 81 bytes at most
abbrev pub text_bound : List (List ℕ) → List (List ℕ × List ℕ) → List (List ℕ) → List (List ℕ) → ℕ
text_bound args envs paths outputs = 100 + (args_bound args + (envs_bound envs + (paths_bound paths + outputs_bound outputs)))
