use Rattle.std.proofs.Common.{drop, map}
use Rattle.build_plan.specs.Way.{change_of}
use Rattle.build_script.specs.WorkAtOnce.{by_cards}
use Rattle.build_script.proofs.PlanAtOnce.{IsChanging}
use Rattle.build_script.proofs.plan_at_once.change_targets.Given as goal

abbrev pub invariant-targets : goal.invariant-targets
invariant-targets g l =
    IsChanging g.T.Tree.tells g.T.Tree.files g.T.Tree.changes g.T.Tree.calls g.T.Tree.faults l.retries (map (change_of by_cards l.items) l.targets) (map (change_of by_cards l.items) (drop l.target-index l.targets)) l.initial.tree l.tree
