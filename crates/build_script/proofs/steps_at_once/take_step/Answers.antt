use Rattle.build_script.proofs.BytesAreFound.{goes-find, goes-read, goes-take}
use Rattle.build_script.proofs.steps_at_once.take_step.Goals as goal

pub returns-in-Read-clause-goes : goal.returns-in-Read-clause-goes
returns-in-Read-clause-goes g c told = rw c.in-Read.is (goes-read (g.T.Tree.files c.args.tree.now) c.in-Read.path c.read_bytes.result (c.read_bytes.ensures.exact told))

pub returns-in-Read-clause-reads : goal.returns-in-Read-clause-reads
returns-in-Read-clause-reads g c = c.read_bytes.ensures.reads

pub returns-in-Take-clause-goes : goal.returns-in-Take-clause-goes
returns-in-Take-clause-goes g c told = rw c.in-Take.is (goes-take (g.T.Tree.files c.args.tree.now) c.args.items.now c.in-Take.path c.take_bytes.result (c.take_bytes.ensures.exact told))

pub returns-in-Take-clause-reads : goal.returns-in-Take-clause-reads
returns-in-Take-clause-reads g c = c.take_bytes.ensures.reads

pub returns-in-Find-clause-goes : goal.returns-in-Find-clause-goes
returns-in-Find-clause-goes g c told = rw c.in-Find.is
    (goes-find (g.T.Tree.files c.args.tree.now) c.args.items.now c.in-Find.missing c.in-Find.places c.read_first.result (rw c.as_slice.ensures at (c.read_first.ensures.exact told)))

pub returns-in-Find-clause-reads : goal.returns-in-Find-clause-reads
returns-in-Find-clause-reads g c = c.read_first.ensures.reads

pub returns-in-Run-clause-goes : goal.returns-in-Run-clause-goes
returns-in-Run-clause-goes g c told = rw c.in-Run.is (c.run_stage.ensures.goes told)

pub returns-in-Run-clause-reads : goal.returns-in-Run-clause-reads
returns-in-Run-clause-reads g c = c.run_stage.ensures.reads

pub run_scanning-requires : goal.run_scanning-requires
run_scanning-requires g c = rw c.in-Scan.is at c.requires

pub returns-in-Scan-clause-goes : goal.returns-in-Scan-clause-goes
returns-in-Scan-clause-goes g c told = rw c.in-Scan.is (c.run_scanning.ensures.goes told c.args.items.now)

pub returns-in-Scan-clause-reads : goal.returns-in-Scan-clause-reads
returns-in-Scan-clause-reads g c = c.run_scanning.ensures.reads
