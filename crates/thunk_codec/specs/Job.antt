-- Jobs: what a function is run on, and how long its encoding is.
use Rattle.std.specs.Prelude.{◌≡◌, ℕ, ◌+◌, List, [], ◌∷◌, ◌++◌, length, map, sum_by, bytes_eq, nat_le, Bool, ◌&&◌, Option, Some, None, if◌then◌else◌}
use Rattle.std.specs.List.{flat_map, list_all}
use Rattle.std.specs.Int.{w32, to_be_bytes}
use Rattle.std.specs.Cmp.Lexicographic.{pointwise}
use Rattle.object_name.specs.Kind.{max_outputs}
use Rattle.object_name.specs.Name.{ObjectName, max_size}
use Rattle.thunk_codec.specs.declared.job.Job.{Job}
use Rattle.thunk_codec.specs.declared.reference.Ref.{Ref}
use Rattle.thunk_codec.specs.declared.reference.Ref.TheVariants.{Value, Out}
use Rattle.text_lines.specs.Maybe.{◌>>◌, check}
use Rattle.thunk_codec.specs.Thunk.{Parts, has_no_zero, is_identifier, is_strictly_increasing, are_distinct}

-- the greatest length of a job's encoding, in bytes
abbrev pub max_job : ℕ
max_job = 67108864

-- a count: four bytes, the highest first
abbrev pub encoded_count : ℕ → List ℕ
encoded_count n = to_be_bytes w32 n

-- a string: its length as a count, then its bytes
abbrev pub encoded_string : List ℕ → List ℕ
encoded_string bytes = encoded_count (length bytes) ++ bytes

-- two strings
abbrev pub encoded_pair : List ℕ × List ℕ → List ℕ
encoded_pair pair = encoded_string pair.0 ++ encoded_string pair.1

-- the encoding of a job
unfoldable pub job_encoding : Job → List ℕ
job_encoding job = encoded_string job.function
    ++ (encoded_count (length job.args) ++ (flat_map encoded_string job.args
    ++ (encoded_count (length job.envs) ++ (flat_map encoded_pair job.envs
    ++ (encoded_count (length job.inputs) ++ (flat_map encoded_pair job.inputs
    ++ (encoded_count (length job.outputs) ++ flat_map encoded_string job.outputs)))))))

-- the length of the encoding
abbrev pub job_size : Job → ℕ
job_size job = length (job_encoding job)

-- the length of the encoding of a job, by the lengths of its function and of its inputs
unfoldable pub size_by_lengths : ℕ → List (List ℕ) → List (List ℕ × List ℕ) → List (List ℕ × ℕ) → List (List ℕ) → ℕ
size_by_lengths function args envs inputs outputs = 20 + function
    + sum_by (λ arg. 4 + length arg) args
    + sum_by (λ env. 8 + length env.0 + length env.1) envs
    + sum_by (λ input. 8 + length input.0 + input.1) inputs
    + sum_by (λ output. 4 + length output) outputs

-- the object that a REF names
abbrev pub ref_name : Ref → ObjectName
ref_name (Value name) = name
ref_name (Out name index) = name

-- an input's path and the length of its object
abbrev pub with_length : List ℕ × List ℕ → List ℕ × ℕ
with_length input = (input.0, length input.1)

-- an input's path and the size in the name of its object
abbrev pub with_size : List ℕ × Ref → List ℕ × ℕ
with_size input = (input.0, (ref_name input.1).size)

-- a job has the parts of a thunk, and objects of the sizes in the names of its REFs
pub record IsJobOf (t : Parts) (job : Job) : Type 0 where
  pub function : length job.function ≡ (ref_name t.function).size
  pub args : job.args ≡ t.args
  pub envs : job.envs ≡ t.envs
  pub inputs : map with_length job.inputs ≡ map with_size t.inputs
  pub outputs : job.outputs ≡ t.outputs

-- the rules that the job of a thunk keeps: no object is longer than one may be, and the rules of a thunk on numbers, on bytes and
-- on orders
abbrev pub job_keeps_rules : Job → Bool
job_keeps_rules job = nat_le (length job.function) max_size
    && (list_all (λ input. nat_le (length input.1) max_size) job.inputs
    && ((nat_le (length job.inputs) 4096 && (nat_le 1 (length job.outputs) && nat_le (length job.outputs) max_outputs))
    && ((list_all has_no_zero job.args && (list_all (λ env. is_identifier env.0) job.envs && list_all (λ env. has_no_zero env.1) job.envs))
    && (is_strictly_increasing (map (λ env. env.0) job.envs) && (is_strictly_increasing (map (λ input. input.0) job.inputs) && are_distinct job.outputs)))))

-- the size of the job of a thunk whose REFs are all values, by the sizes in their names
unfoldable pub resolved_size : Parts → ℕ
resolved_size t = size_by_lengths (ref_name t.function).size t.args t.envs (map with_size t.inputs) t.outputs

-- whether two pairs have the same bytes
abbrev pub same_pair : List ℕ × List ℕ → List ℕ × List ℕ → Bool
same_pair one other = bytes_eq one.0 other.0 && bytes_eq one.1 other.1

-- whether two jobs have the same parts
unfoldable pub same_job : Job → Job → Bool
same_job one other = bytes_eq one.function other.function
    && (pointwise bytes_eq one.args other.args
    && (pointwise same_pair one.envs other.envs
    && (pointwise same_pair one.inputs other.inputs
    && pointwise bytes_eq one.outputs other.outputs)))

-- the bytes of the first input with this path
abbrev pub input_at : List ℕ → List (List ℕ × List ℕ) → Option (List ℕ)
input_at path [] = None
input_at path (input ∷ inputs) = if bytes_eq input.0 path then Some input.1 else input_at path inputs

-- the bytes of the one input, where it has this path
abbrev pub only_input : List ℕ → List (List ℕ × List ℕ) → Option (List ℕ)
only_input path [] = None
only_input path (input ∷ []) = do
  check (bytes_eq input.0 path)
  Some input.1
only_input path (input ∷ other ∷ others) = None
