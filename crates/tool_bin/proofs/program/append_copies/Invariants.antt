use Rattle.std.proofs.Common.{◌≡◌, ◌++◌, take}
use Rattle.tool_bin.proofs.program.append_copies.Given as goal

abbrev pub invariant-copied : goal.invariant-copied
invariant-copied g l = l.things ≡ l.initial.things ++ take l.thing-index l.more
