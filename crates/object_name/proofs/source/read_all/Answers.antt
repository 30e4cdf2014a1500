use Rattle.std.proofs.Common.{◌+◌, length, arith}
use Rattle.object_name.proofs.StreamLemmas.{loses_prefix, loses_up_to, one_past, loses_over}
use Rattle.object_name.proofs.source.read_all.Goals as goal

pub returns-then-count-room-clause-too_long : goal.returns-then-count-room-clause-too_long
returns-then-count-room-clause-too_long g c _ =
    let read = c.in_ok-count.ensures in
    let sum = one_past c.pieces.piece (length c.read.new.buf) c.wanted-want.result c.len.result c.in_ok-count.count c.args.limit
    read.count c.read.auto.buf c.wanted-want.ensures.limit c.if-count-room.true (omega (arith, c.len.ensures, c.pieces.invariant.within)) in
    loses_prefix (g.S.Source.left c.args.source.now) (g.S.Source.left c.pieces.source) (g.S.Source.left c.read.new.self) c.pieces.bytes c.read.new.buf c.in_ok-count.count (c.args.limit + 1)
    c.pieces.invariant.lost read.gave read.count (omega (arith, sum, c.len.ensures))

pub returns-then-count-room-clause-over : goal.returns-then-count-room-clause-over
returns-then-count-room-clause-over g c is =
    loses_over (g.S.Source.left c.args.source.now) (g.S.Source.left c.read.new.self) c.args.limit (returns-then-count-room-clause-too_long g c is)

pub returns-then-count-room-clause-prefix : goal.returns-then-count-room-clause-prefix
returns-then-count-room-clause-prefix g c =
    let read = c.in_ok-count.ensures in
    let sum = one_past c.pieces.piece (length c.read.new.buf) c.wanted-want.result c.len.result c.in_ok-count.count c.args.limit
    read.count c.read.auto.buf c.wanted-want.ensures.limit c.if-count-room.true (omega (arith, c.len.ensures, c.pieces.invariant.within)) in
    loses_up_to (g.S.Source.left c.args.source.now) (g.S.Source.left c.pieces.source) (g.S.Source.left c.read.new.self) c.pieces.bytes c.read.new.buf c.in_ok-count.count (c.args.limit + 1)
    c.pieces.invariant.lost read.gave read.count (omega (arith, sum, c.len.ensures))

pub returns-in_err-append-clause-prefix : goal.returns-in_err-append-clause-prefix
returns-in_err-append-clause-prefix g c =
    let read = c.in_ok-count.ensures in
    loses_up_to (g.S.Source.left c.args.source.now) (g.S.Source.left c.pieces.source) (g.S.Source.left c.read.new.self) c.pieces.bytes c.read.new.buf c.in_ok-count.count (c.args.limit + 1)
    c.pieces.invariant.lost read.gave read.count (omega (arith, c.len.ensures, c.if-count-room.false, c.pieces.invariant.within))
