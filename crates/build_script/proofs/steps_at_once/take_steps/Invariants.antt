use Rattle.build_script.proofs.PlanAtOnce.{IsTaking}
use Rattle.build_script.proofs.steps_at_once.take_steps.Given as goal

abbrev pub invariant-steps : goal.invariant-steps
invariant-steps g l = IsTaking g.T.Tree.tells g.T.Tree.files g.T.Tree.changes g.T.Tree.calls g.T.Tree.faults l.retries l.steps l.initial.tree l.tree l.step-index l.items
