use Rattle.std.proofs.Common.{sym, ◌∙◌}
use Rattle.tool_bin.proofs.GivenMembers.{given_missed, given_other, given_more, given_ends}
use Rattle.tool_bin.proofs.archive_task.given_members.Goals as goal

pub returns-in_default : goal.returns-in_default
returns-in_default c = given_missed c.args.names.now c.args.inputs.now c.names.rest.now c.names.number c.names.members c.names.invariant c.names-test.true c.in_default.len_below

pub names-preserved : goal.names-preserved
names-preserved c =
    given_more c.args.names.now c.args.inputs.now c.names.rest.now c.names.number c.names.members c.push.new.self c.index-names-number.result c.as_slice.result.now c.input-item.result c.in-Some.member
    c.names.invariant c.names-test.true c.in-len1-up.len_at_least c.index-names-number.is c.as_slice.ensures c.input-item.is (sym c.in-Some.is ∙ c.in_ok-member.ensures) c.in_ok-push.ensures.ok

pub returns : goal.returns
returns c = given_ends c.args.names.now c.args.inputs.now c.names.rest.now c.names.number c.names.members c.names.invariant c.names-test.false

pub returns-in_default-2 : goal.returns-in_default-2
returns-in_default-2 c =
    given_other c.args.names.now c.args.inputs.now c.names.rest.now c.names.number c.names.members c.index-names-number.result c.as_slice.result.now c.input-item.result
    c.names.invariant c.names-test.true c.in-len1-up.len_at_least c.index-names-number.is c.as_slice.ensures c.input-item.is (sym c.in_default-2.is ∙ c.in_ok-member.ensures)
