use Rattle.std.proofs.Common.{◌≡◌, ◌-◌, ◌^◌, min, sum_by, take}
use Rattle.gg_cli.specs.CreateWords.{pair_bytes}
use Rattle.gg_cli.proofs.create_words.envs_len.Given as goal

abbrev pub invariant-pairs : goal.invariant-pairs
invariant-pairs l = l.total ≡ min (sum_by pair_bytes (take l.key-index l.envs)) (2 ^ 64 - 1)
