use Rattle.blob_store.specs.Keeping.{kept}
use Rattle.object_name.specs.Causes.{TriesAtMost}
use Rattle.need_eval.specs.Walking.{work_of}
use Rattle.need_eval.proofs.EvaluateGoesRound.{IsBetween}
use Rattle.need_eval.proofs.evaluating.evaluate.Given as goal

abbrev pub invariant-walk : goal.invariant-walk
invariant-walk g l =
    IsBetween g.K.Keeper.tells g.R.Function.tells g.R.Function.outcome l.fn.budget l.fn.retries l.fn.refs (kept g.K.Keeper.store g.K.Keeper.writes l.fn.keeper) (kept g.K.Keeper.store g.K.Keeper.writes l.keeper)
    (g.K.Keeper.faults l.fn.keeper) (g.K.Keeper.faults l.keeper) (g.R.Runner.faults l.fn.runner) (g.R.Runner.faults l.runner) (TriesAtMost l.fn.retries g.K.Keeper.calls g.K.Keeper.faults l.fn.keeper l.keeper 0) l.walker

abbrev pub decreases-walk : goal.decreases-walk
decreases-walk g l = work_of l.walker
