use Rattle.std.specs.Prelude.{◌≡◌, take}
use Rattle.force_pool.proofs.making.copies.Given as goal

abbrev pub invariant-items : goal.invariant-items
invariant-items g l = l.made ≡ take l.item-index l.items
