-- Frames: what is sent to a worker and what comes back, each as its contents after their length.
use Rattle.std.specs.Prelude.{◌≡◌, ℕ, ◌≤◌, ◌<◌, ◌^◌, List, [], ◌∷◌, ◌++◌, length, sum_by, IsTrue}
use Rattle.std.specs.List.{flat_map, list_all}
use Rattle.std.proofs.Common.{get_or}
use Rattle.std.specs.Int.{w64, to_be_bytes}
use Rattle.object_name.specs.Name.{max_size}
use Rattle.thunk_codec.specs.declared.job.Job.{Job}
use Rattle.thunk_codec.specs.declared.job.Outcome.{Outcome}
use Rattle.thunk_codec.specs.declared.job.Outcome.TheVariants.{Done, Failed}
use Rattle.thunk_codec.specs.Job.{encoded_count, encoded_string, job_encoding, job_keeps_rules, job_size, max_job}
use Rattle.thunk_codec.specs.Path.{is_path}
use Rattle.job_wire.specs.declared.message.Message.{Message}
use Rattle.job_wire.specs.declared.message.Message.TheVariants.{Start, Reply, Bye}

-- the greatest length of a frame's contents, in bytes: a letter, the number of a lease, and a job
abbrev pub max_contents : ℕ
max_contents = 67108873

-- each of the numbers is a byte
abbrev pub IsBytes : List ℕ → Type 0
IsBytes bytes = (i : ℕ) → get_or bytes i 0 < 256

-- the number of a lease: eight bytes, the highest first
abbrev pub lease_number : ℕ → List ℕ
lease_number lease = to_be_bytes w64 lease

-- the encoding of an outcome: 0, the number of outputs, and each as a string; or 1 and the status
unfoldable pub outcome_encoding : Outcome → List ℕ
outcome_encoding (Done outputs) = 0 ∷ (encoded_count (length outputs) ++ flat_map encoded_string outputs)
outcome_encoding (Failed status) = 1 ∷ status ∷ []

-- the contents of a frame: `J`, the number of a lease and a job; `R`, the number of a lease and an outcome; or `B`
unfoldable pub contents : Message → List ℕ
contents (Start lease job) = 74 ∷ (lease_number lease ++ job_encoding job)
contents (Reply lease outcome) = 82 ∷ (lease_number lease ++ outcome_encoding outcome)
contents Bye = 66 ∷ []

-- the frame of a message: the length of its contents as a count, then the contents
abbrev pub frame : Message → List ℕ
frame message = encoded_string (contents message)

-- a job that has an encoding: its paths are normal, it keeps the rules of a job, and its encoding is short enough
pub record IsJob (job : Job) : Type 0 where
  pub input_paths : IsTrue (list_all (λ input. is_path input.0) job.inputs)
  pub output_paths : IsTrue (list_all is_path job.outputs)
  pub rules : IsTrue (job_keeps_rules job)
  pub size : job_size job ≤ max_job

-- an outcome that has an encoding: 1 to 64 outputs, together within the size of an object; or a status from 1 to 204
abbrev pub IsOutcome : Outcome → Type 0
IsOutcome (Done outputs) = (1 ≤ length outputs) × (length outputs ≤ 64) × (sum_by length outputs ≤ max_size)
IsOutcome (Failed status) = (1 ≤ status) × (status ≤ 204)

-- a message that has a frame
abbrev pub IsMessage : Message → Type 0
IsMessage (Start lease job) = (lease < 2 ^ 64) × IsJob job
IsMessage (Reply lease outcome) = (lease < 2 ^ 64) × IsOutcome outcome
IsMessage Bye = Unit {0}

-- the bytes are the frame of the message
pub record Frame (bytes : List ℕ) (message : Message) : Type 0 where
  pub rules : IsMessage message
  pub text : bytes ≡ frame message
