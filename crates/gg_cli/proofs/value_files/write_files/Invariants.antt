use Rattle.gg_cli.proofs.FilesAreWrittenInOrder.{IsFiling}
use Rattle.gg_cli.proofs.value_files.write_files.Given as goal

abbrev pub invariant-values : goal.invariant-values
invariant-values g l =
    IsFiling g.K.Keeper.tells g.T.Tree.tells g.K.Keeper.store g.K.Keeper.writes g.T.Tree.files g.T.Tree.changes g.K.Keeper.faults g.K.Keeper.calls g.T.Tree.faults g.T.Tree.calls l.retries
    l.names l.name-iterator.a.rest.now l.items l.name-iterator.b.rest.now l.initial.keeper l.keeper l.initial.tree l.tree
