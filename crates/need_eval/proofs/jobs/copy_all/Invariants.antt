use Rattle.std.proofs.Common.{◌≡◌, take}
use Rattle.need_eval.proofs.jobs.copy_all.Given as goal

abbrev pub invariant-copied : goal.invariant-copied
invariant-copied g l = l.copies ≡ take l.item-index l.items
