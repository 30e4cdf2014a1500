use Rattle.std.proofs.Common.{◌≡◌, ◌++◌, take}
use Rattle.std.specs.List.{flat_map}
use Rattle.tool_bin.specs.Archive.{member_text}
use Rattle.tool_bin.proofs.archive_writing.write_members.Given as goal

abbrev pub invariant-members : goal.invariant-members
invariant-members l = l.out ≡ l.initial.out ++ flat_map member_text (take l.member-index l.members)
