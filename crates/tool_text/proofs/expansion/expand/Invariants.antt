use Rattle.std.proofs.Common.{◌≡◌, ◌++◌, length}
use Rattle.tool_text.specs.Expand.{expanded}
use Rattle.tool_text.specs.Views.{macros_of}
use Rattle.tool_text.proofs.expansion.expand.Given as goal

abbrev pub invariant-pieces : goal.invariant-pieces
invariant-pieces l = l.out ++ expanded (macros_of l.macros) l.rest ≡ l.fn.out ++ expanded (macros_of l.macros) l.line

abbrev pub decreases-pieces : goal.decreases-pieces
decreases-pieces l = length l.rest
