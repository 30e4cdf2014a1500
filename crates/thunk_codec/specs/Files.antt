-- Files by their paths.
use Rattle.std.specs.Prelude.{ℕ, List, Option}
use Rattle.thunk_codec.specs.declared.job.Job.{Job}
use Rattle.thunk_codec.specs.Job.{input_at}

-- a map from normal paths to bytes, by what it has at each path
abbrev pub Files : Type 0
Files = List ℕ → Option (List ℕ)

-- some inputs, by their paths
abbrev pub files_at : List (List ℕ × List ℕ) → Files
files_at inputs = λ path. input_at path inputs

-- the inputs of a job
abbrev pub files_of : Job → Files
files_of job = files_at job.inputs
