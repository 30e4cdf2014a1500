use Rattle.build_script.proofs.CallsCounted.{reads-none}
use Rattle.build_script.proofs.ToolsAreRun.{optional-not}
use Rattle.build_script.proofs.tool_inputs.with_optional.Goals as goal

pub returns-in-Some-clause-goes : goal.returns-in-Some-clause-goes
returns-in-Some-clause-goes g c told items = rw c.in-Some.is (c.with_file.ensures.goes told items)

pub returns-in-Some-clause-reads : goal.returns-in-Some-clause-reads
returns-in-Some-clause-reads g c = c.with_file.ensures.reads

pub returns-in-None-clause-goes : goal.returns-in-None-clause-goes
returns-in-None-clause-goes g c told items = rw c.in-None.is (optional-not (g.T.Tree.files c.args.tree.now) items c.args.read)

pub returns-in-None-clause-reads : goal.returns-in-None-clause-reads
returns-in-None-clause-reads g c = reads-none _ _ _ _ _ _ _
