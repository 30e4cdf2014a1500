use Rattle.std.proofs.Common.{take}
use Rattle.build_script.proofs.LinesSoFar.{HasInferred}
use Rattle.build_script.proofs.inferring.infer_lines.Given as goal

abbrev pub invariant-lines : goal.invariant-lines
invariant-lines g l =
    HasInferred g.K.Keeper.tells g.T.Tree.tells g.K.Keeper.store g.K.Keeper.writes g.K.Keeper.faults g.K.Keeper.calls g.T.Tree.files g.T.Tree.changes g.T.Tree.faults g.T.Tree.calls l.retries (take l.line-index l.lines) l.initial.keeper l.keeper l.initial.tree l.tree l.inferred
