use Rattle.std.proofs.Common.{◌≡◌, length}
use Rattle.tool_bin.specs.Link.{pass}
use Rattle.tool_bin.proofs.ld_tool.pass.Given as goal

abbrev pub invariant-objects : goal.invariant-objects
invariant-objects l = pass l.program l.rest ≡ pass l.fn.before l.objects

abbrev pub decreases-objects : goal.decreases-objects
decreases-objects l = length l.rest
