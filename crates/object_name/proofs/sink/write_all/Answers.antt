use Rattle.std.proofs.Common.{arith}
use Rattle.object_name.proofs.StreamLemmas.{appends_more, prefix_kept, piece_within}
use Rattle.object_name.proofs.sink.write_all.Goals as goal

pub returns-in_err-at-clause-prefix : goal.returns-in_err-at-clause-prefix
returns-in_err-at-clause-prefix g c =
    prefix_kept (g.S.Sink.written c.args.sink.now) (g.S.Sink.written c.pieces.sink) (g.S.Sink.written c.write.new.self) c.args.bytes.now c.pieces.at c.pieces.invariant.written c.in_err-at.ensures.kept

pub pieces-preserved : goal.pieces-preserved
pieces-preserved g c =
    let count = c.in_ok-at.ensures.count in
    record {
      within = piece_within c.args.bytes.now c.pieces.at c.in_ok-at.field-0 c.pieces.invariant.within count.1;
      written = appends_more (g.S.Sink.written c.args.sink.now) (g.S.Sink.written c.pieces.sink) (g.S.Sink.written c.write.new.self) c.args.bytes.now c.pieces.at c.in_ok-at.field-0 c.pieces.invariant.written c.in_ok-at.ensures.took;
      faults = let before = c.pieces.invariant.faults in let later = c.in_ok-at.ensures.cause.later in let most = c.in_ok-at.ensures.cause.most in omega (arith, before, later, most);
    }
