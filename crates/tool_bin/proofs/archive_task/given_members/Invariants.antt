use Rattle.tool_bin.proofs.GivenMembers.{Given}
use Rattle.tool_bin.proofs.archive_task.given_members.Given as goal

abbrev pub invariant-names : goal.invariant-names
invariant-names l = Given l.names l.inputs l.number l.members l.rest
