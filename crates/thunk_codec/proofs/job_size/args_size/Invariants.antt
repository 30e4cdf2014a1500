use Rattle.std.proofs.Common.{◌≡◌, ◌+◌, length, sum_by, take}
use Rattle.thunk_codec.proofs.job_size.args_size.Given as goal

abbrev pub invariant-loop-arg : goal.invariant-loop-arg
invariant-loop-arg l = l.size ≡ sum_by (λ arg. 4 + length arg) (take l.arg-index l.args)
