use Rattle.std.proofs.Common.{◌≡◌, length}
use Rattle.thunk_codec.specs.Job.{input_at}
use Rattle.thunk_codec.proofs.inputs.find_first.Given as goal

abbrev pub invariant-inputs : goal.invariant-inputs
invariant-inputs l = input_at l.path l.rest ≡ input_at l.path l.inputs

abbrev pub decreases-inputs : goal.decreases-inputs
decreases-inputs l = length l.rest
