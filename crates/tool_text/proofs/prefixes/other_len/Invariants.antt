use Rattle.std.specs.Prelude.{not}
use Rattle.tool_text.specs.Directive.{is_word_byte}
use Rattle.tool_text.proofs.PrefixLengths.{PassBelow}
use Rattle.tool_text.proofs.prefixes.other_len.Given as goal

abbrev pub invariant-loop-i : goal.invariant-loop-i
invariant-loop-i l = PassBelow (λ byte. not (is_word_byte byte)) l.text l.i
