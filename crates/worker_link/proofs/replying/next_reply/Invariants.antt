use Rattle.std.proofs.Common.{◌≤◌, ◌<◌, ◌+◌, ◌*◌, ◌-◌, ◌^◌, length}
use Rattle.worker_link.specs.Stream.{input_of}
use Rattle.worker_link.proofs.Inputs.{IsInput}
use Rattle.worker_link.proofs.replying.next_reply.Given as goal

abbrev pub invariant-frames : goal.invariant-frames
invariant-frames g l = record {
  input : IsInput (input_of l.fn.cutter (g.S.Source.left l.fn.source)) l.fn.cutter.at l.cutter (g.S.Source.left l.source);
  small : l.cutter.at + length l.cutter.kept < 2 ^ 64;
  reads : g.S.Source.faults l.fn.source ≤ g.S.Source.faults l.source;
}

abbrev pub decreases-frames : goal.decreases-frames
decreases-frames g l = 2 ^ 65 - (2 * l.cutter.at + length l.cutter.kept)
