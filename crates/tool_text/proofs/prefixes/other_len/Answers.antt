use Rattle.std.proofs.Common.{sym, ap, not, arith}
use Rattle.tool_text.specs.Directive.{is_word_byte}
use Rattle.tool_text.proofs.PrefixLengths.{run_stops, run_is_all}
use Rattle.tool_text.proofs.prefixes.other_len.Goals as goal

pub returns-then-is_letter_or_digit : goal.returns-then-is_letter_or_digit
returns-then-is_letter_or_digit c = run_stops (λ byte. not (is_word_byte byte)) c.args.text.now c.loop-i.i c.loop-i-test.true (ap not (sym c.if-is_letter_or_digit.ensures)) c.loop-i.invariant

pub returns : goal.returns
returns c = run_is_all (λ byte. not (is_word_byte byte)) c.args.text.now (λ k below. c.loop-i.invariant k (let end = c.loop-i-test.false in omega arith))
