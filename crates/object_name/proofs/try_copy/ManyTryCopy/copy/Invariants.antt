use Rattle.std.proofs.Common.{◌≡◌, take}
use Rattle.object_name.proofs.try_copy.ManyTryCopy.copy.Given as goal

abbrev pub invariant-copied : goal.invariant-copied
invariant-copied g l = l.made ≡ take l.item-index l.item-items
