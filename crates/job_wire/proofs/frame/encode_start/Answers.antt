use Rattle.std.proofs.Common.{◌∙◌, ◌++◌, ap, length, List, ℕ, arith}
use Rattle.job_wire.specs.declared.message.Message.TheVariants.{Start}
use Rattle.job_wire.specs.Frame.{contents}
use Rattle.job_wire.proofs.Messages.{contents_small, framed}
use Rattle.job_wire.proofs.frame.encode_start.Goals as goal

pub overflow_cast-len : goal.overflow_cast-len
overflow_cast-len c =
    let e = c.len.ensures ∙ ap length (c.in_ok-write_start.ensures ∙ ap (λ (v : List ℕ). v ++ contents (Start c.args.lease c.args.job.now)) c.in_ok-out.ensures) in
    omega (arith, e, contents_small (Start c.args.lease c.args.job.now) (c.ranges.lease.fits, c.requires))

pub returns : goal.returns
returns c = framed (Start c.args.lease c.args.job.now) c.write_start.new.out c.set_count.new.out c.len.result (c.in_ok-write_start.ensures ∙ ap (λ (v : List ℕ). v ++ contents (Start c.args.lease c.args.job.now)) c.in_ok-out.ensures) c.len.ensures c.set_count.ensures
