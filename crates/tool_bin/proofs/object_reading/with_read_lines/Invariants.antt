use Rattle.std.proofs.Common.{◌≡◌, length}
use Rattle.text_lines.specs.Lines.{lines_of}
use Rattle.tool_bin.specs.ObjectBuilder.{empty_builder}
use Rattle.tool_bin.specs.ObjectReading.{with_read_lines}
use Rattle.tool_bin.proofs.object_reading.with_read_lines.Given as goal

abbrev pub invariant-lines : goal.invariant-lines
invariant-lines l = with_read_lines (lines_of l.rest) l.builder ≡ with_read_lines (lines_of l.text) empty_builder

abbrev pub decreases-lines : goal.decreases-lines
decreases-lines l = length l.rest
