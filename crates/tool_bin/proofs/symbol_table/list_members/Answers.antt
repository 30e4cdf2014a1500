use Rattle.tool_bin.proofs.MembersListed.{listing_goes_on, listing_done}
use Rattle.tool_bin.proofs.symbol_table.list_members.Goals as goal

pub members-preserved : goal.members-preserved
members-preserved c =
    listing_goes_on c.args.members.now c.members.rest.now c.member-item.result c.members.offsets c.add_member.new.offsets c.members.names c.add_member.new.names c.contents.result.now c.members.offset c.next_offset-offset.result
    c.members.invariant c.in-len1-up.len_at_least c.member-item.is c.in_ok-add_member.ensures.offsets c.in_ok-add_member.ensures.names c.next_offset-offset.ensures c.contents.ensures

pub returns-clause-offsets : goal.returns-clause-offsets
returns-clause-offsets c = (listing_done c.args.members.now c.members.rest.now c.members.offsets c.members.names c.members.offset c.members.invariant c.in_default.len_below).0
