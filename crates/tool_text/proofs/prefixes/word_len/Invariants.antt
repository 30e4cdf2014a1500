use Rattle.tool_text.specs.Directive.{is_word_byte}
use Rattle.tool_text.proofs.PrefixLengths.{PassBelow}
use Rattle.tool_text.proofs.prefixes.word_len.Given as goal

abbrev pub invariant-loop-i : goal.invariant-loop-i
invariant-loop-i l = PassBelow is_word_byte l.text l.i
