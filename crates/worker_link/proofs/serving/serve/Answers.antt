use Rattle.std.proofs.Common.{◌≡◌, ℕ, ◌+◌, length, sym, ap, subst, refl, ◌∙◌, arith, Ok, true, false, Result, Bool}
use Rattle.job_wire.specs.declared.message.Message.TheVariants.{Start, Reply, Bye}
use Rattle.job_wire.specs.declared.cutter.CutFault.TheVariants.{FrameTooLong, BadFrame}
use Rattle.job_wire.specs.Cut.{Cutting}
use Rattle.worker_link.proofs.Servings.{IsServing, taken_is, place_is, short_is, fault_is, small_after, serving_starts, serving_feeds, serving_answers, serving_prefix, serving_part, serving_ends, serving_at_end, serving_too_much, ends_at_bye, ends_at_reply, ends_at_bad, ends_at_long, answer_stops, at_rest_ended, not_at_rest_cut}
use Rattle.std.proofs.lemmas.Bool.{false≢true}
use Rattle.worker_link.specs.declared.feeding.FeedFault.{FeedFault}
use Rattle.worker_link.specs.Ends.{IsFeedFault, IsTooMuch}
use Rattle.worker_link.proofs.serving.serve.Goals as goal

pub frames-init : goal.frames-init
frames-init g c = rw c.new-cutter.ensures record {
  serving = serving_starts g.R.Function.tells g.R.Function.outcome (g.S.Source.left c.args.source.now) (g.O.Sink.written c.args.sink.now);
  small = omega arith;
  runs = omega arith;
  reads = omega arith;
  writes = omega arith;
}

pub returns-in-Err-clause-session : goal.returns-in-Err-clause-session
returns-in-Err-clause-session g c =
    let t = (taken_is c.frames.cutter c.next.new.self c.in-Ok-Some-Start.field-0 c.in-Ok-Some-Start.field-0-0 (Start c.in-Ok-Some-Start.lease c.in-Ok-Some-Start.job) c.in-Ok-Some-Start.field-0-is c.in-Ok-Some-Start.field-0-0-is c.in-Ok-Some-Start.ensures.taken) in
    answer_stops g.R.Function.tells g.R.Function.outcome (g.S.Source.left c.args.source.now) (g.O.Sink.written c.args.sink.now) (g.O.Sink.written c.answer.new.sink) _ _ _ _ c.in-Err.end c.in-Err.ensures.err
    (serving_part g.R.Function.tells g.R.Function.outcome (g.S.Source.left c.args.source.now) (g.S.Source.left c.frames.source) (g.O.Sink.written c.args.sink.now) (g.O.Sink.written c.frames.sink) (g.O.Sink.written c.answer.new.sink) c.frames.cutter c.in-Ok-Some-Start.lease c.in-Ok-Some-Start.job c.next.new.self.kept c.frames.invariant.serving t.0 t.1 (rw c.in-Ok-Some-Start.field-0-0-is at c.in-Err.ensures.prefix))

pub frames-preserved-in_default : goal.frames-preserved-in_default
frames-preserved-in_default g c =
    let t = (taken_is c.frames.cutter c.next.new.self c.in-Ok-Some-Start.field-0 c.in-Ok-Some-Start.field-0-0 (Start c.in-Ok-Some-Start.lease c.in-Ok-Some-Start.job) c.in-Ok-Some-Start.field-0-is c.in-Ok-Some-Start.field-0-0-is c.in-Ok-Some-Start.ensures.taken) in
    let p = (place_is c.frames.cutter c.next.new.self c.in-Ok-Some-Start.field-0 c.in-Ok-Some-Start.field-0-0 (Start c.in-Ok-Some-Start.lease c.in-Ok-Some-Start.job) c.in-Ok-Some-Start.field-0-is c.in-Ok-Some-Start.field-0-0-is c.in-Ok-Some-Start.ensures.cuts) in
    record {
      serving = serving_answers g.R.Function.tells g.R.Function.outcome (g.S.Source.left c.args.source.now) (g.S.Source.left c.frames.source) (g.O.Sink.written c.args.sink.now) (g.O.Sink.written c.frames.sink) (g.O.Sink.written c.answer.new.sink) c.frames.cutter c.next.new.self c.in-Ok-Some-Start.lease c.in-Ok-Some-Start.job c.frames.invariant.serving t.0 t.1 p (rw c.in-Ok-Some-Start.field-0-0-is at c.in_default.ensures.ok);
      small = small_after c.frames.cutter c.next.new.self (Start c.in-Ok-Some-Start.lease c.in-Ok-Some-Start.job) c.frames.invariant.small t.1 p;
      runs = let a = c.frames.invariant.runs in let b = c.in_default.ensures.run_later in omega (arith, a, b);
      reads = c.frames.invariant.reads;
      writes = let a = c.frames.invariant.writes in let b = c.in_default.ensures.write_later in omega (arith, a, b);
    }

pub returns-in-Ok-Some-Reply-clause-session : goal.returns-in-Ok-Some-Reply-clause-session
returns-in-Ok-Some-Reply-clause-session g c =
    let t = (taken_is c.frames.cutter c.next.new.self c.in-Ok-Some-Reply.field-0 c.in-Ok-Some-Reply.field-0-0 (Reply c.in-Ok-Some-Reply.field-0-0-0 c.in-Ok-Some-Reply.field-0-0-1) c.in-Ok-Some-Reply.field-0-is c.in-Ok-Some-Reply.field-0-0-is c.in-Ok-Some-Reply.ensures.taken) in
    rw c.at-at.ensures (serving_ends g.R.Function.tells g.R.Function.outcome (g.S.Source.left c.args.source.now) (g.S.Source.left c.frames.source) (g.O.Sink.written c.args.sink.now) (g.O.Sink.written c.frames.sink) c.frames.cutter _ c.frames.invariant.serving (λ rest e. ends_at_reply c.frames.cutter.at c.in-Ok-Some-Reply.field-0-0-0 c.in-Ok-Some-Reply.field-0-0-1 c.frames.cutter.kept c.next.new.self.kept rest t.0 t.1))

pub returns-in-Ok-Some-Bye-clause-session : goal.returns-in-Ok-Some-Bye-clause-session
returns-in-Ok-Some-Bye-clause-session g c =
    let t = (taken_is c.frames.cutter c.next.new.self c.in-Ok-Some-Bye.field-0 c.in-Ok-Some-Bye.field-0-0 Bye c.in-Ok-Some-Bye.field-0-is c.in-Ok-Some-Bye.field-0-0-is c.in-Ok-Some-Bye.ensures.taken) in
    serving_ends g.R.Function.tells g.R.Function.outcome (g.S.Source.left c.args.source.now) (g.S.Source.left c.frames.source) (g.O.Sink.written c.args.sink.now) (g.O.Sink.written c.frames.sink) c.frames.cutter _ c.frames.invariant.serving (λ rest e. ends_at_bye c.frames.cutter.at c.frames.cutter.kept c.next.new.self.kept rest t.1)

pub frames-preserved : goal.frames-preserved
frames-preserved g c =
    let s = (short_is c.frames.cutter c.next.new.self c.in-Ok-None.field-0 c.in-Ok-None.field-0-is c.in-Ok-None.ensures.cuts) in
    let f = c.in-Ok-true.ensures.fed (ap (λ (v : Bool). Ok v) c.in-Ok-true.field-0-test) in
    record {
      serving = serving_feeds g.R.Function.tells g.R.Function.outcome (g.S.Source.left c.args.source.now) (g.S.Source.left c.frames.source) (g.S.Source.left c.feed_more.new.source) (g.O.Sink.written c.args.sink.now) (g.O.Sink.written c.frames.sink) c.next.new.self c.feed_more.new.cutter (subst (IsServing g.R.Function.tells g.R.Function.outcome (g.S.Source.left c.args.source.now) (g.S.Source.left c.frames.source) (g.O.Sink.written c.args.sink.now) (g.O.Sink.written c.frames.sink)) (sym s.1) c.frames.invariant.serving) f;
      small = f.small;
      runs = c.frames.invariant.runs;
      reads = let a = c.frames.invariant.reads in let b = c.in-Ok-true.ensures.later in omega (arith, a, b);
      writes = c.frames.invariant.writes;
    }

pub returns-then-at_rest-clause-session : goal.returns-then-at_rest-clause-session
returns-then-at_rest-clause-session g c =
    let s = (short_is c.frames.cutter c.next.new.self c.in-Ok-None.field-0 c.in-Ok-None.field-0-is c.in-Ok-None.ensures.cuts) in
    let h = c.in-Ok-false.ensures.end (ap (λ (v : Bool). Ok v) c.in-Ok-false.field-0-test) in
    let none = ap (λ (v : Cutting). v.kept) (sym s.1 ∙ sym h.kept) ∙ c.if-at_rest.ensures.0 refl in
    serving_at_end g.R.Function.tells g.R.Function.outcome (g.S.Source.left c.args.source.now) (g.S.Source.left c.frames.source) (g.S.Source.left c.feed_more.new.source) (g.O.Sink.written c.args.sink.now) (g.O.Sink.written c.frames.sink) c.frames.cutter _ c.frames.invariant.serving s.0 h.same h.end (at_rest_ended c.frames.cutter.kept none)

pub returns-in-Ok-false-clause-session : goal.returns-in-Ok-false-clause-session
returns-in-Ok-false-clause-session g c =
    let s = (short_is c.frames.cutter c.next.new.self c.in-Ok-None.field-0 c.in-Ok-None.field-0-is c.in-Ok-None.ensures.cuts) in
    let h = c.in-Ok-false.ensures.end (ap (λ (v : Bool). Ok v) c.in-Ok-false.field-0-test) in
    serving_at_end g.R.Function.tells g.R.Function.outcome (g.S.Source.left c.args.source.now) (g.S.Source.left c.frames.source) (g.S.Source.left c.feed_more.new.source) (g.O.Sink.written c.args.sink.now) (g.O.Sink.written c.frames.sink) c.frames.cutter _ c.frames.invariant.serving s.0 h.same h.end (not_at_rest_cut c.frames.cutter.kept (λ e. false≢true (c.if-at_rest.ensures.1 (ap (λ (v : Cutting). v.kept) (h.kept ∙ s.1) ∙ e))))

pub returns-in-Err-SourceFailed-clause-session : goal.returns-in-Err-SourceFailed-clause-session
returns-in-Err-SourceFailed-clause-session g c = serving_prefix g.R.Function.tells g.R.Function.outcome (g.S.Source.left c.args.source.now) (g.S.Source.left c.frames.source) (g.O.Sink.written c.args.sink.now) (g.O.Sink.written c.frames.sink) c.frames.cutter c.frames.invariant.serving

pub returns-in-Err-TooMuch-clause-session : goal.returns-in-Err-TooMuch-clause-session
returns-in-Err-TooMuch-clause-session g c =
    let s = (short_is c.frames.cutter c.next.new.self c.in-Ok-None.field-0 c.in-Ok-None.field-0-is c.in-Ok-None.ensures.cuts) in
    let e = subst (λ (v : FeedFault). IsFeedFault (g.S.Source.faults c.frames.source) (g.S.Source.faults c.feed_more.new.source) c.next.new.self (g.S.Source.left c.frames.source) (g.S.Source.left c.feed_more.new.source) v) c.in-Err-TooMuch.field-0-is c.in-Err-TooMuch.ensures.err in
    serving_too_much g.R.Function.tells g.R.Function.outcome (g.S.Source.left c.args.source.now) (g.S.Source.left c.frames.source) (g.S.Source.left c.feed_more.new.source) (g.O.Sink.written c.args.sink.now) (g.O.Sink.written c.frames.sink) c.frames.cutter c.frames.invariant.serving (subst (λ (v : Cutting). IsTooMuch v (g.S.Source.left c.frames.source) (g.S.Source.left c.feed_more.new.source)) s.1 e)

pub returns-in-Err-Memory-feed_more-clause-session : goal.returns-in-Err-Memory-feed_more-clause-session
returns-in-Err-Memory-feed_more-clause-session g c = serving_prefix g.R.Function.tells g.R.Function.outcome (g.S.Source.left c.args.source.now) (g.S.Source.left c.frames.source) (g.O.Sink.written c.args.sink.now) (g.O.Sink.written c.frames.sink) c.frames.cutter c.frames.invariant.serving

pub returns-in-Err-FrameTooLong-clause-session : goal.returns-in-Err-FrameTooLong-clause-session
returns-in-Err-FrameTooLong-clause-session g c =
    let f = fault_is c.frames.cutter c.next.new.self c.in-Err-FrameTooLong.field-0 (FrameTooLong c.in-Err-FrameTooLong.at c.in-Err-FrameTooLong.len) c.in-Err-FrameTooLong.field-0-is c.in-Err-FrameTooLong.ensures.cuts in
    rw (c.in-Err-FrameTooLong.at-is, c.in-Err-FrameTooLong.len-is) (serving_ends g.R.Function.tells g.R.Function.outcome (g.S.Source.left c.args.source.now) (g.S.Source.left c.frames.source) (g.O.Sink.written c.args.sink.now) (g.O.Sink.written c.frames.sink) c.frames.cutter _ c.frames.invariant.serving (λ rest e. ends_at_long c.frames.cutter.at c.in-Err-FrameTooLong.at c.in-Err-FrameTooLong.len c.frames.cutter.kept rest f.1 f.0))

pub returns-in-Err-BadFrame-clause-session : goal.returns-in-Err-BadFrame-clause-session
returns-in-Err-BadFrame-clause-session g c =
    let f = fault_is c.frames.cutter c.next.new.self c.in-Err-BadFrame.field-0 (BadFrame c.in-Err-BadFrame.at) c.in-Err-BadFrame.field-0-is c.in-Err-BadFrame.ensures.cuts in
    rw c.in-Err-BadFrame.at-is (serving_ends g.R.Function.tells g.R.Function.outcome (g.S.Source.left c.args.source.now) (g.S.Source.left c.frames.source) (g.O.Sink.written c.args.sink.now) (g.O.Sink.written c.frames.sink) c.frames.cutter _ c.frames.invariant.serving (λ rest e. ends_at_bad c.frames.cutter.at c.in-Err-BadFrame.at c.frames.cutter.kept rest f.1 f.0))

pub returns-in-Err-Memory-clause-session : goal.returns-in-Err-Memory-clause-session
returns-in-Err-Memory-clause-session g c = serving_prefix g.R.Function.tells g.R.Function.outcome (g.S.Source.left c.args.source.now) (g.S.Source.left c.frames.source) (g.O.Sink.written c.args.sink.now) (g.O.Sink.written c.frames.sink) c.frames.cutter c.frames.invariant.serving
