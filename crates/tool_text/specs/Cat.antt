-- The card `cat`: the bytes of all inputs, one after another.
use Rattle.std.specs.Prelude.{ℕ, List, [], ◌∷◌, ◌==◌, ◌&&◌, length, if◌then◌else◌}
use Rattle.std.specs.List.{flat_map}
use Rattle.thunk_codec.specs.declared.job.Job.{Job}
use Rattle.thunk_codec.specs.declared.job.Outcome.{Outcome}
use Rattle.thunk_codec.specs.declared.job.Outcome.TheVariants.{Done, Failed}

-- the bytes of the inputs, in path order
abbrev pub joined : Job → List ℕ
joined job = flat_map (λ input. input.1) job.inputs

-- no arguments and one output, else status 64
abbrev pub cat_outcome : Job → Outcome
cat_outcome job = if (length job.args == 0) && (length job.outputs == 1) then Done (joined job ∷ []) else Failed 64
