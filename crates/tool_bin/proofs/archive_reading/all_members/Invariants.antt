use Rattle.std.proofs.Common.{length}
use Rattle.tool_bin.proofs.MembersReadInTurn.{Going}
use Rattle.tool_bin.proofs.archive_reading.all_members.Given as goal

abbrev pub invariant-members : goal.invariant-members
invariant-members l = Going l.bytes l.members l.rest

abbrev pub decreases-members : goal.decreases-members
decreases-members l = length l.rest
