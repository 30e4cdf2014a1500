use Rattle.std.proofs.Common.{◌≡◌, length}
use Rattle.std.specs.List.{list_all}
use Rattle.text_lines.specs.Among.{is_among}
use Rattle.tool_bin.proofs.ld_tool.are_named_by.Given as goal

abbrev pub invariant-inputs : goal.invariant-inputs
invariant-inputs l = list_all (λ input. is_among l.names input.0) l.rest ≡ list_all (λ input. is_among l.names input.0) l.inputs

abbrev pub decreases-inputs : goal.decreases-inputs
decreases-inputs l = length l.rest
