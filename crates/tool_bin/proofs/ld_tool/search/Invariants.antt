use Rattle.std.proofs.Common.{◌≡◌}
use Rattle.tool_bin.specs.Link.{searched}
use Rattle.tool_bin.proofs.ld_tool.search.Given as goal

abbrev pub invariant-passes : goal.invariant-passes
invariant-passes l = searched l.passes l.program l.objects ≡ searched l.most l.fn.before l.objects

abbrev pub decreases-passes : goal.decreases-passes
decreases-passes l = l.passes
