use Rattle.std.proofs.Common.{◌≡◌, drop}
use Rattle.build_plan.specs.Creating.{placeholders}
use Rattle.build_plan.proofs.FilesAreChanged.{IsChanging}
use Rattle.build_plan.proofs.targets.leave_placeholders.Given as goal

abbrev pub invariant-outputs : goal.invariant-outputs
invariant-outputs g l =
    record {
      changing : IsChanging g.T.Tree.tells g.T.Tree.files g.T.Tree.changes g.T.Tree.calls g.T.Tree.faults l.retries (placeholders l.name 0 l.outputs) (placeholders l.name l.path-index (drop l.path-index l.outputs)) l.initial.tree l.tree;
      place : l.index ≡ l.path-index;
    }
