-- The jobs of words.
use Rattle.std.specs.Prelude.{ℕ, List, [], ◌∷◌}
use Rattle.thunk_codec.specs.declared.job.Job.{Job}

-- the most bytes of a word
abbrev pub most_word : ℕ
most_word = 64

-- the job of a function with nothing but one output
abbrev pub word_job : List ℕ → List ℕ → Job
word_job function output = record { function = function; args = []; envs = []; inputs = []; outputs = output ∷ [] }
