use Rattle.std.proofs.Common.{bytes_eq, ◌∙◌}
use Rattle.std.specs.Option.{option_or}
use Rattle.indexmap.specs.IndexMap.{get}
use Rattle.tool_bin.proofs.PutByFirstIndex.{at_index, finds_next}
use Rattle.tool_bin.proofs.member_insertion.first_indexes.Goals as goal

pub members-preserved : goal.members-preserved
members-preserved c =
    let member = c.index-members-index.result in
    finds_next (get bytes_eq c.members.first) (get bytes_eq c.note_first.new.first) c.args.members.now c.members.index member c.members.invariant c.members-test.true c.index-members-index.is
    (λ name. c.in_ok-note_first.ensures name ∙ (λ i. option_or (get bytes_eq c.members.first name) (at_index (bytes_eq (c.name.ensures i) name) c.members.index)))
