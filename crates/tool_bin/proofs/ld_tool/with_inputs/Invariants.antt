use Rattle.std.proofs.Common.{◌≡◌, length}
use Rattle.tool_bin.specs.Link.{with_inputs}
use Rattle.tool_bin.proofs.ld_tool.with_inputs.Given as goal

abbrev pub invariant-inputs : goal.invariant-inputs
invariant-inputs l = with_inputs l.inputs l.program l.rest ≡ with_inputs l.inputs l.fn.before l.args

abbrev pub decreases-inputs : goal.decreases-inputs
decreases-inputs l = length l.rest
