use Rattle.std.proofs.Common.{◌≡◌, length}
use Rattle.build_script.specs.ScriptLines.{no_lines, with_bytes}
use Rattle.build_script.proofs.lines.ScriptLines.read.Given as goal

abbrev pub invariant-bytes : goal.invariant-bytes
invariant-bytes l = with_bytes l.rest l.given ≡ with_bytes l.text no_lines

abbrev pub decreases-bytes : goal.decreases-bytes
decreases-bytes l = length l.rest
