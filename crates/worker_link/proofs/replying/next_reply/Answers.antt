use Rattle.std.proofs.Common.{refl, inr}
use Rattle.job_wire.specs.declared.cutter.CutFault.TheVariants.{FrameTooLong, BadFrame}
use Rattle.worker_link.specs.Stream.{input_of}
use Rattle.worker_link.proofs.Servings.{taken_is, fault_is}
use Rattle.worker_link.proofs.Inputs.{input_of_message, input_of_bad, input_of_long, ok_or_failed}
use Rattle.worker_link.proofs.replying.next_reply.Goals as goal

pub returns-in-Ok-Some-clause-failed : goal.returns-in-Ok-Some-clause-failed
returns-in-Ok-Some-clause-failed g c = λ failed.
    let t = taken_is c.frames.cutter c.next.new.self c.in-Ok-Some.field-0 c.in-Ok-Some.message c.in-Ok-Some.message c.in-Ok-Some.field-0-is refl c.in-Ok-Some.ensures.taken in
    inr (input_of_message c.args.sent.now c.args.cutter.now.at c.frames.cutter (input_of c.args.cutter.now (g.S.Source.left c.args.source.now)) (g.S.Source.left c.frames.source) c.in-Ok-Some.message c.next.new.self.kept c.frames.invariant.input t.0 t.1 (c.reply_in.ensures.none (ok_or_failed c.reply_in.result c.ok_or.result _ _ c.ok_or.ensures.value failed)))

pub returns-in-Err-FrameTooLong-clause-failed : goal.returns-in-Err-FrameTooLong-clause-failed
returns-in-Err-FrameTooLong-clause-failed g c = λ _.
    let f = fault_is c.frames.cutter c.next.new.self c.in-Err-FrameTooLong.field-0 (FrameTooLong c.in-Err-FrameTooLong.field-0-0 c.in-Err-FrameTooLong.field-0-1) c.in-Err-FrameTooLong.field-0-is c.in-Err-FrameTooLong.ensures.cuts in
    inr (input_of_long c.args.sent.now c.args.cutter.now.at c.frames.cutter (input_of c.args.cutter.now (g.S.Source.left c.args.source.now)) (g.S.Source.left c.frames.source) c.in-Err-FrameTooLong.field-0-1 c.frames.invariant.input f.0)

pub returns-in-Err-BadFrame-clause-failed : goal.returns-in-Err-BadFrame-clause-failed
returns-in-Err-BadFrame-clause-failed g c = λ _.
    let f = fault_is c.frames.cutter c.next.new.self c.in-Err-BadFrame.field-0 (BadFrame c.in-Err-BadFrame.field-0-0) c.in-Err-BadFrame.field-0-is c.in-Err-BadFrame.ensures.cuts in
    inr (input_of_bad c.args.sent.now c.args.cutter.now.at c.frames.cutter (input_of c.args.cutter.now (g.S.Source.left c.args.source.now)) (g.S.Source.left c.frames.source) c.frames.invariant.input f.0)
