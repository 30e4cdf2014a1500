use Rattle.std.proofs.Common.{[], drop, map}
use Rattle.build_plan.specs.Way.{file_input}
use Rattle.build_script.proofs.ToolsAreRun.{IsReading}
use Rattle.build_script.proofs.tool_inputs.file_inputs.Given as goal

abbrev pub invariant-paths : goal.invariant-paths
invariant-paths g l = IsReading g.T.Tree.tells g.T.Tree.files g.T.Tree.changes g.T.Tree.calls g.T.Tree.faults l.retries [] (map file_input l.paths) (map file_input (drop l.path-index l.paths)) l.initial.tree l.tree l.read
