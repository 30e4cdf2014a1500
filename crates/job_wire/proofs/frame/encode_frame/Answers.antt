use Rattle.std.proofs.Common.{◌∙◌, ◌++◌, ap, length, List, ℕ, arith}
use Rattle.job_wire.specs.Frame.{contents}
use Rattle.job_wire.proofs.Messages.{contents_small, framed}
use Rattle.job_wire.proofs.frame.encode_frame.Goals as goal

pub overflow_cast-len : goal.overflow_cast-len
overflow_cast-len c =
    let e = c.len.ensures ∙ ap length (c.in_ok-write_contents.ensures ∙ ap (λ (v : List ℕ). v ++ contents c.args.message.now) c.in_ok-out.ensures) in
    omega (arith, e, contents_small c.args.message.now c.requires)

pub returns-clause-text : goal.returns-clause-text
returns-clause-text c = framed c.args.message.now c.write_contents.new.out c.set_count.new.out c.len.result (c.in_ok-write_contents.ensures ∙ ap (λ (v : List ℕ). v ++ contents c.args.message.now) c.in_ok-out.ensures) c.len.ensures c.set_count.ensures

pub returns-clause-frame : goal.returns-clause-frame
returns-clause-frame c = record {
  rules = c.requires;
  text = framed c.args.message.now c.write_contents.new.out c.set_count.new.out c.len.result (c.in_ok-write_contents.ensures ∙ ap (λ (v : List ℕ). v ++ contents c.args.message.now) c.in_ok-out.ensures) c.len.ensures c.set_count.ensures;
}
