use Rattle.build_plan.proofs.StepsInOrder.{IsTaking}
use Rattle.build_plan.proofs.steps.take_steps.Given as goal

abbrev pub invariant-steps : goal.invariant-steps
invariant-steps g l =
    IsTaking g.K.Keeper.tells g.T.Tree.tells g.K.Keeper.store g.K.Keeper.writes g.T.Tree.files g.T.Tree.changes g.K.Keeper.calls g.K.Keeper.faults g.T.Tree.calls g.T.Tree.faults l.retries
    l.steps l.initial.keeper l.keeper l.initial.tree l.tree l.step-index l.items l.thunks
