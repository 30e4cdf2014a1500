use Rattle.std.specs.Prelude.{◌≡◌, ◌≤◌, ◌++◌, length}
use Rattle.force_pool.specs.Sums.{Fits, HasParts}
use Rattle.force_pool.proofs.tally.collect.Given as goal

abbrev pub invariant-slots : goal.invariant-slots
invariant-slots g l =
    Fits g.L.Function.tells g.S.Limits.retries l.yielded l.tally × (length l.slot-iterator.rest.items ≤ l.tally.left) × (l.yielded ++ l.slot-iterator.rest.items ≡ l.fn.slots.items)
    × HasParts l.fn.tally.parts (length l.yielded) l.tally.parts
