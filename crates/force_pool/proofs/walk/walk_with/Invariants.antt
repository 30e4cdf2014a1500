use Rattle.std.specs.Prelude.{◌≡◌}
use Rattle.need_eval.specs.Walking.{work_of}
use Rattle.force_pool.proofs.WalksConclude.{Between}
use Rattle.force_pool.proofs.walk.walk_with.Given as goal

abbrev pub invariant-walk : goal.invariant-walk
invariant-walk g l =
    Between g.K.Keeper.tells g.K.Keeper.store g.K.Keeper.writes g.K.Keeper.faults g.L.Function.tells g.L.Function.outcome l.fn.budget l.fn.retries l.fn.refs l.fn.keeper l.keeper l.walker
    × (l.slots.items ≡ l.fn.slots.items)

abbrev pub decreases-walk : goal.decreases-walk
decreases-walk g l = work_of l.walker
