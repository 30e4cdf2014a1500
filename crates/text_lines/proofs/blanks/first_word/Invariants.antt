use Rattle.text_lines.proofs.BlankLemmas.{NoBlankBelow}
use Rattle.text_lines.proofs.blanks.first_word.Given as goal

abbrev pub invariant-loop-i : goal.invariant-loop-i
invariant-loop-i l = NoBlankBelow l.text l.i
