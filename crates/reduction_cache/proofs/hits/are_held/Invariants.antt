use Rattle.std.proofs.Common.{take}
use Rattle.reduction_cache.proofs.HitCases.{IsLooking}
use Rattle.reduction_cache.proofs.hits.are_held.Given as goal

abbrev pub invariant-names : goal.invariant-names
invariant-names g l = IsLooking g.K.Keeper.tells g.K.Keeper.store g.K.Keeper.writes g.K.Keeper.faults g.K.Keeper.calls l.initial.keeper l.keeper l.retries l.name-index (take l.name-index l.names)
