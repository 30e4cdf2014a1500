use Rattle.build_script.proofs.BytesAreFound.{HasPassed}
use Rattle.build_script.proofs.file_bytes.read_first.Given as goal

abbrev pub invariant-places : goal.invariant-places
invariant-places g l = HasPassed g.T.Tree.tells g.T.Tree.files g.T.Tree.changes g.T.Tree.calls g.T.Tree.faults l.retries l.missing l.places l.initial.tree l.tree l.place-index
