-- Answers: outcomes by the names of their outputs.
use Rattle.std.specs.Prelude.{◌≤◌, map, length, sum_by}
use Rattle.object_name.specs.Name.{max_size, name_of}
use Rattle.thunk_codec.specs.declared.job.Outcome.{Outcome}
use Rattle.thunk_codec.specs.declared.job.Outcome.TheVariants as outcomes
use Rattle.job_wire.specs.declared.answer.Answer.{Answer}
use Rattle.job_wire.specs.declared.answer.Answer.TheVariants as answers

-- the answer of an outcome
abbrev pub answer_of : Outcome → Answer
answer_of (outcomes.Done outputs) = answers.Done (map name_of outputs)
answer_of (outcomes.Failed status) = answers.Failed status

-- an outcome whose outputs are together within the size of an object
abbrev pub FitsAnObject : Outcome → Type 0
FitsAnObject (outcomes.Done outputs) = sum_by length outputs ≤ max_size
FitsAnObject (outcomes.Failed status) = Unit {0}
