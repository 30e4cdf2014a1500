use Rattle.need_eval.specs.Walking.{work_of}
use Rattle.need_eval.proofs.TurnsAddUp.{HasGone}
use Rattle.need_eval.proofs.walker.Walker.turns.Given as goal

abbrev pub invariant-turns : goal.invariant-turns
invariant-turns g l = HasGone g.K.Keeper.tells g.K.Keeper.store g.K.Keeper.writes g.K.Keeper.faults g.K.Keeper.calls l.fn.self l.self l.fn.keeper l.keeper

abbrev pub decreases-turns : goal.decreases-turns
decreases-turns g l = work_of l.self
