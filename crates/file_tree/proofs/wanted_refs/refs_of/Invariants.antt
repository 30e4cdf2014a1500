use Rattle.file_tree.proofs.GatheredRefs.{HasGathered}
use Rattle.file_tree.proofs.wanted_refs.refs_of.Given as goal

abbrev pub invariant-items : goal.invariant-items
invariant-items g l = HasGathered g.T.Tree.tells g.T.Tree.files g.T.Tree.changes g.T.Tree.faults g.T.Tree.calls l.retries l.initial.tree l.tree l.items l.item-index l.refs
