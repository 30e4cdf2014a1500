-- The card `fib`: a Fibonacci number, as the thunk that adds the two before it.
use Rattle.std.specs.Prelude.{◌≡◌, ◌≤◌, ℕ, ◌-◌, List, [], ◌∷◌, nat_eq, nat_le, not, length, map, codes, decimal, bytes_eq, Option, Some, None, if◌then◌else◌}
use Rattle.std.specs.List.{starts_with, AllByRecursion}
use Rattle.std.specs.Cmp.Lexicographic.{pointwise}
use Rattle.object_name.specs.Kind.{thunk_mark}
use Rattle.object_name.specs.Name.{ObjectName, max_size, name_of}
use Rattle.object_name.specs.Number.{number_of}
use Rattle.thunk_codec.specs.declared.job.Job.{Job}
use Rattle.thunk_codec.specs.declared.job.Outcome.{Outcome}
use Rattle.thunk_codec.specs.declared.job.Outcome.TheVariants.{Done, Failed}
use Rattle.thunk_codec.specs.declared.reference.Ref.TheVariants.{Value, Out}
use Rattle.text_lines.specs.Maybe.{◌>>=◌, ◌>>◌, check}
use Rattle.thunk_codec.specs.Job.{only_input}
use Rattle.thunk_codec.specs.Thunk.{IsThunk, Parts, text_of}
use Rattle.tool_text.specs.declared.fib_thunks.Asked.{Asked}
use Rattle.tool_text.specs.Numbers.{number_line}

-- the outputs
abbrev pub fib_outputs : List (List ℕ)
fib_outputs = codes "out" ∷ codes "left" ∷ codes "right" ∷ []

-- the index of a Fibonacci number that a text says, a canonical decimal number of 0 to 93
abbrev pub index_in : List ℕ → Option ℕ
index_in text = do
  n ← number_of text
  check (nat_le n 93)
  Some n

-- the index that the arguments say: there is one argument
abbrev pub index_of : List (List ℕ) → Option ℕ
index_of [] = None
index_of (arg ∷ []) = index_in arg
index_of (arg ∷ other ∷ others) = None

-- the name of a value: of bytes that are no thunk's and within the size of an object
abbrev pub value_name : List ℕ → Option ObjectName
value_name bytes = do
  check (nat_le (length bytes) max_size)
  check (not (starts_with nat_eq bytes thunk_mark))
  Some (name_of bytes)

-- the name of the input `add`: there is no other input
abbrev pub add_name : List (List ℕ × List ℕ) → Option ObjectName
add_name inputs = do
  bytes ← only_input (codes "add") inputs
  value_name bytes

-- what a job asks for, where its outputs, argument, function and input are of this form
abbrev pub asked_of : Job → Option Asked
asked_of job = do
  check (pointwise bytes_eq job.outputs fib_outputs)
  n ← index_of job.args
  function ← value_name job.function
  add ← add_name job.inputs
  Some (record { number = n; function = function; add = add })

-- the job's own thunk with another number
abbrev pub fib_thunk : Asked → ℕ → Parts
fib_thunk asked n = record {
  function = Value asked.function;
  args = decimal n ∷ [];
  envs = [];
  inputs = (codes "add", Value asked.add) ∷ [];
  outputs = fib_outputs;
}

-- the sum of the first outputs of two thunks
abbrev pub sum_thunk : Asked → ObjectName → ObjectName → Parts
sum_thunk asked left right = record {
  function = Value asked.add;
  args = [];
  envs = [];
  inputs = (codes "a", Out left 0) ∷ (codes "b", Out right 0) ∷ [];
  outputs = codes "out" ∷ [];
}

-- the thunks that a number of 2 or more is answered with: the sum of the two numbers before it, and these two
abbrev pub thunks_of : Asked → List Parts
thunks_of asked =
    let left = fib_thunk asked (asked.number - 1) in
    let right = fib_thunk asked (asked.number - 2) in
    sum_thunk asked (name_of (text_of left)) (name_of (text_of right)) ∷ left ∷ right ∷ []

-- their texts
abbrev pub thunk_texts : Asked → List (List ℕ)
thunk_texts asked = map text_of (thunks_of asked)

-- the numbers 0 and 1 are their own, and the others are sums
abbrev pub contents_of : Asked → List (List ℕ)
contents_of asked = if nat_le asked.number 1 then number_line asked.number ∷ [] ∷ [] ∷ [] else thunk_texts asked

-- status 64 where nothing is asked for
abbrev pub outcome_of : Option Asked → Outcome
outcome_of None = Failed 64
outcome_of (Some asked) = Done (contents_of asked)

-- the outcome of a job
abbrev pub fib_outcome : Job → Outcome
fib_outcome job = outcome_of (asked_of job)

-- the answer to what is asked for is the texts of these, and they keep the rules of thunks
pub record GivesThunks (asked : Asked) (outcome : Outcome) : Type 0 where
  pub texts : outcome ≡ Done (map text_of (thunks_of asked))
  pub rules : AllByRecursion IsThunk (thunks_of asked)

-- and so it is where a job asks for a number of 2 or more
abbrev pub GivesThunksFrom2 : Job → Outcome → Type 0
GivesThunksFrom2 job outcome = (asked : Asked) → asked_of job ≡ Some asked → 2 ≤ asked.number → GivesThunks asked outcome
