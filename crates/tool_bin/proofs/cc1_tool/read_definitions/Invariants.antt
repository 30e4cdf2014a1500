use Rattle.std.proofs.Common.{◌≡◌, ◌≤◌, ◌+◌, [], length}
use Rattle.text_lines.specs.Lines.{lines_of}
use Rattle.tool_bin.specs.Compile.{definitions_with}
use Rattle.tool_bin.proofs.cc1_tool.read_definitions.Given as goal

abbrev pub invariant-lines : goal.invariant-lines
invariant-lines l = (l.number + length l.rest ≤ 1 + length l.text) × (definitions_with l.number l.made (lines_of l.rest) ≡ definitions_with 1 [] (lines_of l.text))

abbrev pub decreases-lines : goal.decreases-lines
decreases-lines l = length l.rest
