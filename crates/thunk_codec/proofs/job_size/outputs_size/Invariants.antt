use Rattle.std.proofs.Common.{◌≡◌, ◌+◌, length, sum_by, take}
use Rattle.thunk_codec.proofs.job_size.outputs_size.Given as goal

abbrev pub invariant-loop-output : goal.invariant-loop-output
invariant-loop-output l = l.size ≡ sum_by (λ output. 4 + length output) (take l.output-index l.outputs)
