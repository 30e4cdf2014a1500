use Rattle.std.proofs.Common.{◌≡◌, ◌++◌, map, drop}
use Rattle.build_plan.specs.Way.{file_input}
use Rattle.build_plan.proofs.inputs.file_inputs.Given as goal

abbrev pub invariant-paths : goal.invariant-paths
invariant-paths l = map file_input l.paths ≡ l.inputs ++ map file_input (drop l.path-index l.paths)
