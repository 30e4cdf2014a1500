use Rattle.std.proofs.Common.{arith, sym}
use Rattle.text_lines.proofs.CutLemmas.{split_found, split_missed}
use Rattle.text_lines.proofs.cuts.split_at_byte.Goals as goal

pub returns-then-byte-stop : goal.returns-then-byte-stop
returns-then-byte-stop c = sym (split_found c.args.stop c.args.text.now c.loop-i.i c.loop-i-test.true c.if-byte-stop.true c.loop-i.invariant)

pub returns : goal.returns
returns c = sym (split_missed c.args.stop c.args.text.now (λ k lt. c.loop-i.invariant k (let end = c.loop-i-test.false in omega arith)))
