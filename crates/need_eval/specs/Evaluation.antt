-- Evaluation by need: the value of a reference, from a store, under a budget of steps.
use Rattle.std.specs.Prelude.{ℕ, zero, suc, List, length, slice_get, nat_lt, nat_le, Option, Some, None}
use Rattle.object_name.specs.declared.kind.Kind.{Kind}
use Rattle.object_name.specs.declared.kind.Kind.TheVariants as kinds
use Rattle.object_name.specs.Name.{ObjectName, name_of}
use Rattle.thunk_codec.specs.declared.reference.Ref.{Ref}
use Rattle.thunk_codec.specs.declared.reference.Ref.TheVariants.{Value, Out}
use Rattle.thunk_codec.specs.declared.job.Job.{Job}
use Rattle.thunk_codec.specs.declared.job.Outcome.{Outcome}
use Rattle.thunk_codec.specs.declared.job.Outcome.TheVariants.{Done, Failed}
use Rattle.thunk_codec.specs.Thunk.{Parts, text_of}
use Rattle.thunk_codec.specs.Reading.{thunk_of}
use Rattle.thunk_codec.specs.Resolved.{refs_of, resolved_by}
use Rattle.thunk_codec.specs.Job.{ref_name, resolved_size, max_job}
use Rattle.blob_store.specs.Store.{held, other_held, storing}
use Rattle.reduction_cache.specs.Hit.{hit_of, note_write}
use Rattle.need_eval.specs.declared.fault.Refusal.TheVariants.{Missing, BadThunk, NoOutput, Spent, TooBig, FunctionFailed}
use Rattle.need_eval.specs.Eval.{Refused, Clash, Stands, Eval, ◌>>=◌, ◌>>◌, give, stop, current, check, need, each, step, make_write, note_asked, mark}

-- the bytes of an object that is held
abbrev pub object : ObjectName → Eval (List ℕ)
object name = do
  s ← current
  need (held s.store.objects name) (Refused (Missing name))

-- the name of a value that is held
abbrev pub held_value : ObjectName → Eval ObjectName
held_value name = do
  object name
  give name

-- the parts of a thunk that is held
abbrev pub thunk_at : ObjectName → Eval Parts
thunk_at name = do
  bytes ← object name
  need (thunk_of bytes) (Refused (BadThunk name))

-- the path of an input, with the bytes of its value
abbrev pub input_object : List ℕ × Ref → Eval (List ℕ × List ℕ)
input_object input = do
  bytes ← object (ref_name input.1)
  give (input.0, bytes)

-- the job of a thunk whose REFs are all values
abbrev pub job_of : Parts → Eval Job
job_of t = do
  function ← object (ref_name t.function)
  inputs ← each input_object t.inputs
  give (record { function = function; args = t.args; envs = t.envs; inputs = inputs; outputs = t.outputs })

-- stops where other bytes are held under the name of these
abbrev pub no_clash : List ℕ → Option (List ℕ) → Eval (Unit {0})
no_clash bytes None = give tt
no_clash bytes (Some found) = stop (Clash (name_of bytes) found bytes)

-- writes an object, unless it is held, and gives its name
abbrev pub store_one : List ℕ → Eval ObjectName
store_one bytes = do
  s ← current
  no_clash bytes (other_held s.store bytes)
  each make_write (storing s.store bytes)
  give (name_of bytes)

-- the names of the outputs, which are written
abbrev pub outputs_by : ObjectName → Outcome → Eval (List ObjectName)
outputs_by name (Done outputs) = each store_one outputs
outputs_by name (Failed status) = stop (Refused (FunctionFailed name status))

-- the outputs of a resolved thunk by the outcome of its job: they are written, and then a note
abbrev pub finished : ObjectName → Parts → Outcome → Eval (List ObjectName)
finished name t outcome = do
  outputs ← outputs_by name outcome
  make_write (note_write (name_of (text_of t)) outputs)
  give outputs

module _ (answer : ℕ → Job → Option Outcome) where
  -- the outcome of a job
  abbrev pub ask : List ℕ → Job → Eval Outcome
  ask text job = do
    s ← current
    outcome ← need (answer (length s.asked) job) (Stands text job)
    note_asked job
    give outcome

  -- the outputs of a resolved thunk: those that its note has, or those of its function
  abbrev pub outputs_of : ObjectName → Parts → Option (List ObjectName) → Eval (List ObjectName)
  outputs_of name t (Some outputs) = give outputs
  outputs_of name t None = do
    job ← job_of t
    outcome ← ask (text_of t) job
    finished name t outcome

  -- the outputs of a thunk, by its resolved one
  unfoldable pub reduce : ObjectName → Parts → Eval (List ObjectName)
  reduce name t = do
    check (nat_le (resolved_size t) max_job) (Refused (TooBig name (resolved_size t)))
    s ← current
    outputs ← outputs_of name t (hit_of s.store (name_of (text_of t)) (length t.outputs))
    mark name outputs
    give outputs

module _ (budget : ℕ) where
  -- one step for the entry into a thunk, or the passage to it, where the budget has one left
  abbrev pub count_step : ObjectName → Eval (Unit {0})
  count_step name = do
    s ← current
    check (nat_lt s.steps budget) (Refused (Spent name budget))
    step

  -- the entry into a thunk of which an output is wanted
  abbrev pub entered : ObjectName → ℕ → Eval Parts
  entered name index = do
    t ← thunk_at name
    check (nat_lt index (length t.outputs)) (Refused (NoOutput name index))
    count_step name
    give t

module _ (answer : ℕ → Job → Option Outcome) (budget : ℕ) where
  -- the value of a reference, where `deeper` gives those that are met after a step
  module _ (deeper : Ref → Eval ObjectName) where
    -- the outputs of a thunk: it was reduced, or it is entered
    abbrev pub outputs_at : ObjectName → ℕ → Option (List ObjectName) → Eval (List ObjectName)
    outputs_at name index (Some outputs) = give outputs
    outputs_at name index None = do
      t ← entered budget name index
      values ← each deeper (refs_of t)
      reduce answer name (resolved_by t values)

    -- an output of a thunk
    abbrev pub output_of : ObjectName → ℕ → Eval ObjectName
    output_of name index = do
      s ← current
      outputs ← outputs_at name index (s.reduced name)
      need (slice_get outputs index) (Refused (NoOutput name index))

    -- the value that an output is, or that the thunk gives which it is
    abbrev pub passed : Kind → ObjectName → Eval ObjectName
    passed kinds.Value output = give output
    passed kinds.Thunk output = do
      count_step budget output
      deeper (Out output 0)

    abbrev pub value_by : Ref → Eval ObjectName
    value_by (Value name) = held_value name
    value_by (Out name index) = do
      output ← output_of name index
      passed output.kind output

  -- no step is left, so nothing deeper is met
  abbrev pub beyond : Ref → Eval ObjectName
  beyond ref = stop (Refused (Spent (ref_name ref) budget))

  -- the value of a reference, where at most so many steps are left
  unfoldable pub value_within : ℕ → Ref → Eval ObjectName
  value_within zero = value_by beyond
  value_within (suc left) = value_by (value_within left)

  -- the value of a reference
  unfoldable pub value_of : Ref → Eval ObjectName
  value_of = value_within budget

  -- the values of some references, in order
  abbrev pub values_of : List Ref → Eval (List ObjectName)
  values_of refs = each value_of refs

-- the answers of one function
abbrev pub by_function : (Job → Outcome) → ℕ → Job → Option Outcome
by_function outcome place job = Some (outcome job)

-- the answers of a list, the first to the first job that was asked for
abbrev pub by_list : List Outcome → ℕ → Job → Option Outcome
by_list given place job = slice_get given place
