use Rattle.std.proofs.Common.{drop}
use Rattle.build_script.proofs.ToolsAreRun.{IsReading}
use Rattle.build_script.proofs.tool_inputs.read_inputs.Given as goal

abbrev pub invariant-inputs : goal.invariant-inputs
invariant-inputs g l = IsReading g.T.Tree.tells g.T.Tree.files g.T.Tree.changes g.T.Tree.calls g.T.Tree.faults l.retries l.items l.inputs (drop l.path-index l.inputs) l.initial.tree l.tree l.read
