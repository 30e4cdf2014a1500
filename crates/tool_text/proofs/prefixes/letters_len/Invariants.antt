use Rattle.tool_text.specs.Directive.{is_alphabetic}
use Rattle.tool_text.proofs.PrefixLengths.{PassBelow}
use Rattle.tool_text.proofs.prefixes.letters_len.Given as goal

abbrev pub invariant-loop-i : goal.invariant-loop-i
invariant-loop-i l = PassBelow is_alphabetic l.text l.i
