use Rattle.std.specs.Prelude.{◌≡◌}
use Rattle.force_pool.specs.Walks.{IsOnlyRead}
use Rattle.force_pool.proofs.walk.awaited.Given as goal

abbrev pub invariant-rounds : goal.invariant-rounds
invariant-rounds g l = (l.slots.items ≡ l.fn.slots.items) × IsOnlyRead g.K.Keeper.tells g.K.Keeper.store g.K.Keeper.writes g.K.Keeper.faults l.fn.keeper l.keeper
