use Rattle.std.proofs.Common.{◌+◌, arith, length-drop}
use Rattle.thunk_codec.proofs.Paths.{pieces_of-at, pieces_of-none, rest_is}
use Rattle.thunk_codec.proofs.normal.first_piece.Goals as goal

pub returns-then-byte-eq47 : goal.returns-then-byte-eq47
returns-then-byte-eq47 c =
    rw (rest_is c.args.text.now c.loop-i.i) (pieces_of-at c.args.text.now c.loop-i.i c.loop-i-test.true c.if-byte-eq47.true c.loop-i.invariant, let lt = c.loop-i-test.true in omega (arith, length-drop (c.loop-i.i + 1) c.args.text.now))

pub returns : goal.returns
returns c = pieces_of-none c.args.text.now (λ k h. c.loop-i.invariant k (let end = c.loop-i-test.false in omega arith))
