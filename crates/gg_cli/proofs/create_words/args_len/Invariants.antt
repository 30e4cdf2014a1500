use Rattle.std.proofs.Common.{◌≡◌, ◌-◌, ◌^◌, length, min, sum_by, take}
use Rattle.gg_cli.proofs.create_words.args_len.Given as goal

abbrev pub invariant-texts : goal.invariant-texts
invariant-texts l = l.total ≡ min (sum_by length (take l.arg-index l.args)) (2 ^ 64 - 1)
