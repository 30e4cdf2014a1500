use Rattle.std.proofs.Common.{◌≡◌, ◌+◌, length, sum_by, take}
use Rattle.thunk_codec.proofs.job_size.envs_size.Given as goal

abbrev pub invariant-loop-key : goal.invariant-loop-key
invariant-loop-key l = l.size ≡ sum_by (λ env. 8 + length env.0 + length env.1) (take l.key-index l.envs)
