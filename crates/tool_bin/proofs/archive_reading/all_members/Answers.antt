use Rattle.tool_bin.proofs.MembersReadInTurn.{going_more, going_shortens, going_fails, going_ends}
use Rattle.tool_bin.proofs.archive_reading.all_members.Goals as goal

pub returns-in_default : goal.returns-in_default
returns-in_default c = going_fails c.args.bytes.now c.members.members c.members.rest.now c.members.invariant c.members-test.ensures c.in_default.ensures

pub members-smaller : goal.members-smaller
members-smaller c = going_shortens c.members.rest.now c.in-Some.member c.in-Some.after.now c.in-Some.ensures

pub members-preserved : goal.members-preserved
members-preserved c = going_more c.args.bytes.now c.members.members c.push.new.self c.members.rest.now c.in-Some.member c.in-Some.after.now c.members.invariant c.in-Some.ensures c.in_ok-push.ensures.ok

pub returns : goal.returns
returns c = going_ends c.args.bytes.now c.members.members c.members.rest.now c.members.invariant c.members-test.ensures
