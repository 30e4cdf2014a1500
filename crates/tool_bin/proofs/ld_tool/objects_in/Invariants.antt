use Rattle.std.proofs.Common.{◌≡◌, take}
use Rattle.tool_bin.specs.Link.{objects_in}
use Rattle.tool_bin.proofs.ld_tool.objects_in.Given as goal

abbrev pub invariant-members : goal.invariant-members
invariant-members l = l.objects ≡ objects_in (take l.member-index l.members)
