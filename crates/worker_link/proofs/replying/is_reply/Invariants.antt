use Rattle.std.proofs.Common.{length}
use Rattle.std.specs.Prelude.{◌↔◌}
use Rattle.worker_link.specs.Link.{IsReply}
use Rattle.worker_link.specs.Stream.{none_told, some_outcome}
use Rattle.worker_link.proofs.replying.is_reply.Given as goal

abbrev pub invariant-jobs : goal.invariant-jobs
invariant-jobs l = IsReply none_told some_outcome l.sent l.lease l.outcome ↔ IsReply none_told some_outcome l.rest l.lease l.outcome

abbrev pub decreases-jobs : goal.decreases-jobs
decreases-jobs l = length l.rest
