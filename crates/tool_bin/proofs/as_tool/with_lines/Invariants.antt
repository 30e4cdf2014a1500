use Rattle.std.proofs.Common.{◌≡◌, length}
use Rattle.text_lines.specs.Lines.{lines_of}
use Rattle.tool_bin.specs.Assemble.{with_lines}
use Rattle.tool_bin.specs.ObjectBuilder.{empty_builder}
use Rattle.tool_bin.proofs.as_tool.with_lines.Given as goal

abbrev pub invariant-lines : goal.invariant-lines
invariant-lines l = with_lines (lines_of l.rest) l.builder ≡ with_lines (lines_of l.text) empty_builder

abbrev pub decreases-lines : goal.decreases-lines
decreases-lines l = length l.rest
