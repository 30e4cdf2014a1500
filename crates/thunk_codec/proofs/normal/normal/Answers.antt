use Rattle.thunk_codec.proofs.Paths.{Reads-none, reading_stops, reading_ends, reading_goes_on, last_piece, next_piece}
use Rattle.thunk_codec.proofs.normal.normal.Goals as goal

pub pieces-init : goal.pieces-init
pieces-init c = rw c.new-path.ensures (Reads-none c.args.text.now c.requires)

pub returns-then-not-branch : goal.returns-then-not-branch
returns-then-not-branch c =
    let r = c.pieces.invariant in
    let h = rw c.if-not-branch.true at c.in_ok-add_piece.ensures r.before r.good r.path_is in
    reading_stops c.pieces.path c.pieces.rest.now c.args.text.now c.first_piece.result.0.now c.add_piece.new.path c.first_piece.result.1 r c.first_piece.ensures h

pub returns-in-None : goal.returns-in-None
returns-in-None c =
    let r = c.pieces.invariant in
    let h = rw c.if-not-branch.false at c.in_ok-add_piece.ensures r.before r.good r.path_is in
    reading_ends c.pieces.path c.pieces.rest.now c.args.text.now c.first_piece.result.0.now c.add_piece.new.path r (last_piece c.pieces.rest.now _ _ c.in-None.is c.first_piece.ensures) h

pub pieces-preserved : goal.pieces-preserved
pieces-preserved c =
    let r = c.pieces.invariant in
    let h = rw c.if-not-branch.false at c.in_ok-add_piece.ensures r.before r.good r.path_is in
    reading_goes_on c.pieces.path c.pieces.rest.now c.args.text.now c.first_piece.result.0.now c.add_piece.new.path c.in-Some.next.now r (next_piece c.pieces.rest.now _ _ c.in-Some.next c.in-Some.is c.first_piece.ensures) h
