use Rattle.std.proofs.Common.{◌≡◌, ◌+◌, length, sum_by, take}
use Rattle.thunk_codec.proofs.job_size.objects_size.Given as goal

abbrev pub invariant-loop-path : goal.invariant-loop-path
invariant-loop-path l = l.size ≡ sum_by (λ input. 8 + length input.0 + length input.1) (take l.path-index l.inputs)
