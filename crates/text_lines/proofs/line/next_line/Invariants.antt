use Rattle.text_lines.proofs.LineLemmas.{NoFeedBelow}
use Rattle.text_lines.proofs.line.next_line.Given as goal

abbrev pub invariant-loop-i : goal.invariant-loop-i
invariant-loop-i l = NoFeedBelow l.text l.i
