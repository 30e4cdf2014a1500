-- Reading the contents of a frame as a total function: what stands at the front of some bytes, with the bytes after it.
use Rattle.std.specs.Prelude.{ℕ, zero, suc, List, [], ◌∷◌, length, take, drop, nat_le, ◌&&◌, Option, Some, None, bytes_eq, sum_by, if◌then◌else◌, ◌==◌}
use Rattle.std.specs.Int.{w32, w64, from_be_bytes}
use Rattle.object_name.specs.Kind.{max_outputs}
use Rattle.object_name.specs.Name.{max_size}
use Rattle.text_lines.specs.Maybe.{◌>>=◌, ◌>>◌, check}
use Rattle.thunk_codec.specs.declared.job.Job.{Job}
use Rattle.thunk_codec.specs.declared.job.Outcome.{Outcome}
use Rattle.thunk_codec.specs.declared.job.Outcome.TheVariants.{Done, Failed}
use Rattle.thunk_codec.specs.Job.{job_keeps_rules}
use Rattle.thunk_codec.specs.Path.{is_path}
use Rattle.job_wire.specs.declared.message.Message.{Message}
use Rattle.job_wire.specs.declared.message.Message.TheVariants.{Start, Reply, Bye}

-- a count
unfoldable pub count_at : List ℕ → Option (ℕ × List ℕ)
count_at bytes = do
  check (nat_le 4 (length bytes))
  Some (from_be_bytes w32 (take 4 bytes), drop 4 bytes)

-- the number of a lease
unfoldable pub lease_at : List ℕ → Option (ℕ × List ℕ)
lease_at bytes = do
  check (nat_le 8 (length bytes))
  Some (from_be_bytes w64 (take 8 bytes), drop 8 bytes)

-- a string
unfoldable pub string_at : List ℕ → Option (List ℕ × List ℕ)
string_at bytes = do
  len ← count_at bytes
  check (nat_le len.0 (length len.1))
  Some (take len.0 len.1, drop len.0 len.1)

-- a string that is a normal path
unfoldable pub path_at : List ℕ → Option (List ℕ × List ℕ)
path_at bytes = do
  text ← string_at bytes
  check (is_path text.0)
  Some text

-- two things, one after the other
unfoldable pub pair_at : {A B : Type 0} → (List ℕ → Option (A × List ℕ)) → (List ℕ → Option (B × List ℕ)) → List ℕ → Option ((A × B) × List ℕ)
pair_at first_at second_at bytes = do
  first ← first_at bytes
  second ← second_at first.1
  Some ((first.0, second.0), second.1)

-- so many things, one after the other
unfoldable pub things_at : {A : Type 0} → (List ℕ → Option (A × List ℕ)) → ℕ → List ℕ → Option (List A × List ℕ)
things_at thing_at zero bytes = Some ([], bytes)
things_at thing_at (suc more) bytes = do
  first ← thing_at bytes
  others ← things_at thing_at more first.1
  Some (first.0 ∷ others.0, others.1)

-- a count, and so many things
unfoldable pub list_at : {A : Type 0} → (List ℕ → Option (A × List ℕ)) → List ℕ → Option (List A × List ℕ)
list_at thing_at bytes = do
  number ← count_at bytes
  things_at thing_at number.0 number.1

-- a job, whatever rules it breaks but that its paths are normal
unfoldable pub job_at : List ℕ → Option (Job × List ℕ)
job_at bytes = do
  function ← string_at bytes
  args ← list_at string_at function.1
  envs ← list_at (pair_at string_at string_at) args.1
  inputs ← list_at (pair_at path_at string_at) envs.1
  outputs ← list_at path_at inputs.1
  Some (record { function = function.0; args = args.0; envs = envs.0; inputs = inputs.0; outputs = outputs.0 }, outputs.1)

-- the job whose encoding the bytes are, all of them, but for its size
unfoldable pub job_of : List ℕ → Option Job
job_of bytes = do
  job ← job_at bytes
  check (bytes_eq job.1 [])
  check (job_keeps_rules job.0)
  Some job.0

-- the outcome with these outputs, where the bytes are all of them
unfoldable pub outputs_of : List ℕ → Option Outcome
outputs_of bytes = do
  outputs ← list_at string_at bytes
  check (bytes_eq outputs.1 [])
  check (nat_le 1 (length outputs.0) && nat_le (length outputs.0) max_outputs)
  check (nat_le (sum_by length outputs.0) max_size)
  Some (Done outputs.0)

-- the outcome with this status, where it is all of the bytes
abbrev pub status_of : List ℕ → Option Outcome
status_of (status ∷ []) = do
  check (nat_le 1 status && nat_le status 204)
  Some (Failed status)
status_of other = None

-- the outcome whose encoding the bytes are, all of them
unfoldable pub outcome_of : List ℕ → Option Outcome
outcome_of [] = None
outcome_of (flag ∷ rest) = if flag == 0 then outputs_of rest else if flag == 1 then status_of rest else None

-- a lease and a job
unfoldable pub start_of : List ℕ → Option Message
start_of bytes = do
  lease ← lease_at bytes
  job ← job_of lease.1
  Some (Start lease.0 job)

-- a lease and an outcome
unfoldable pub reply_of : List ℕ → Option Message
reply_of bytes = do
  lease ← lease_at bytes
  outcome ← outcome_of lease.1
  Some (Reply lease.0 outcome)

-- nothing
abbrev pub bye_of : List ℕ → Option Message
bye_of bytes = do
  check (bytes_eq bytes [])
  Some Bye

-- the message whose contents the bytes are, all of them: after `J` a job, after `R` an outcome, after `B` nothing
unfoldable pub message_of : List ℕ → Option Message
message_of [] = None
message_of (letter ∷ rest) = if letter == 74 then start_of rest else if letter == 82 then reply_of rest else if letter == 66 then bye_of rest else None
