use Rattle.std.proofs.Common.{drop, map}
use Rattle.build_plan.specs.Symbolic.{symbolic}
use Rattle.build_plan.specs.Way.{change_of}
use Rattle.build_plan.proofs.FilesAreChanged.{IsChanging}
use Rattle.build_plan.proofs.targets.change_targets.Given as goal

abbrev pub invariant-targets : goal.invariant-targets
invariant-targets g l =
    IsChanging g.T.Tree.tells g.T.Tree.files g.T.Tree.changes g.T.Tree.calls g.T.Tree.faults l.retries (map (change_of symbolic l.items) l.targets) (map (change_of symbolic l.items) (drop l.target-index l.targets)) l.initial.tree l.tree
