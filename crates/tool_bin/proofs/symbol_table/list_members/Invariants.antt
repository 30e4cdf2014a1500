use Rattle.std.proofs.Common.{length}
use Rattle.tool_bin.proofs.MembersListed.{Listing}
use Rattle.tool_bin.proofs.symbol_table.list_members.Given as goal

abbrev pub invariant-members : goal.invariant-members
invariant-members l = Listing l.members l.rest l.offsets l.names l.offset

abbrev pub decreases-members : goal.decreases-members
decreases-members l = length l.rest
