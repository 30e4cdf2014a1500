use Rattle.std.proofs.Common.{bytes_eq, take}
use Rattle.indexmap.specs.IndexMap.{get}
use Rattle.tool_bin.specs.FirstIndex.{FindsFirst}
use Rattle.tool_bin.proofs.member_insertion.first_indexes.Given as goal

abbrev pub invariant-members : goal.invariant-members
invariant-members l = FindsFirst (get bytes_eq l.first) (take l.index l.members)
