use Rattle.force_pool.specs.Walks.{IsOnlyRead}
use Rattle.force_pool.proofs.ahead.AheadRunAhead.come_on.Given as goal

abbrev pub invariant-steps : goal.invariant-steps
invariant-steps g l = IsOnlyRead g.K.Keeper.tells g.K.Keeper.store g.K.Keeper.writes g.K.Keeper.faults l.fn.keeper l.keeper
