use Rattle.std.proofs.Common.{◌≡◌, bytes_eq, fold, take}
use Rattle.indexmap.specs.IndexMap.{get}
use Rattle.tool_bin.specs.Ar.{put}
use Rattle.tool_bin.specs.FirstIndex.{FindsFirst}
use Rattle.tool_bin.proofs.member_insertion.put_all.Given as goal

abbrev pub invariant-new : goal.invariant-new
invariant-new l = (l.members ≡ fold put l.initial.members (take l.member-index l.new)) × FindsFirst (get bytes_eq l.first) l.members
