use Rattle.build_plan.proofs.InputsInOrder.{HasRefs}
use Rattle.build_plan.proofs.inputs.input_refs.Given as goal

abbrev pub invariant-inputs : goal.invariant-inputs
invariant-inputs g l =
    HasRefs g.K.Keeper.tells g.T.Tree.tells g.K.Keeper.store g.K.Keeper.writes g.T.Tree.files g.T.Tree.changes g.K.Keeper.calls g.K.Keeper.faults g.T.Tree.calls g.T.Tree.faults l.retries
    l.items l.inputs l.initial.keeper l.keeper l.initial.tree l.tree l.path-index l.refs
