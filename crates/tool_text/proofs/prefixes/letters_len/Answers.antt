use Rattle.std.proofs.Common.{sym, arith}
use Rattle.tool_text.specs.Directive.{is_alphabetic}
use Rattle.tool_text.proofs.PrefixLengths.{run_stops, run_is_all}
use Rattle.tool_text.proofs.prefixes.letters_len.Goals as goal

pub returns-then-not-is_ascii_alphabetic : goal.returns-then-not-is_ascii_alphabetic
returns-then-not-is_ascii_alphabetic c = run_stops is_alphabetic c.args.text.now c.loop-i.i c.loop-i-test.true (sym c.if-not-is_ascii_alphabetic.ensures.value) c.loop-i.invariant

pub returns : goal.returns
returns c = run_is_all is_alphabetic c.args.text.now (λ k below. c.loop-i.invariant k (let end = c.loop-i-test.false in omega arith))
