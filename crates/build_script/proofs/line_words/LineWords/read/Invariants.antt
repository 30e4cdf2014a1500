use Rattle.std.proofs.Common.{◌≡◌, length}
use Rattle.build_script.specs.LineWords.{no_bytes, with_bytes}
use Rattle.build_script.proofs.line_words.LineWords.read.Given as goal

abbrev pub invariant-bytes : goal.invariant-bytes
invariant-bytes l = with_bytes l.rest l.given ≡ with_bytes l.line no_bytes

abbrev pub decreases-bytes : goal.decreases-bytes
decreases-bytes l = length l.rest
