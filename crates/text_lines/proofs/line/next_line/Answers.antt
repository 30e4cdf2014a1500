use Rattle.std.proofs.Common.{arith, ◌<◌, length}
use Rattle.text_lines.proofs.LineLemmas.{first_line, only_line}
use Rattle.text_lines.proofs.line.next_line.Goals as goal

pub returns-then-byte-eq10 : goal.returns-then-byte-eq10
returns-then-byte-eq10 c = first_line c.args.text.now c.loop-i.i c.loop-i-test.true c.if-byte-eq10.true c.loop-i.invariant

pub returns : goal.returns
returns c =
    let some : 0 < length c.args.text.now = grind arith in
    (only_line c.args.text.now some (λ k below. c.loop-i.invariant k (let end = c.loop-i-test.false in omega arith)), some)
