use Rattle.std.proofs.Common.{◌≡◌, ◌∙◌, ap, sym, subst, List, ℕ, Bool, Some}
use Rattle.std.specs.Prelude.{slice_get, if◌then◌else◌}
use Rattle.thunk_codec.specs.declared.job.Job.{Job}
use Rattle.worker_link.specs.declared.phase.Phase.TheVariants.{Idle, Waiting}
use Rattle.worker_link.specs.Sent.{is_latest}
use Rattle.worker_link.specs.Queue.{Queued}
use Rattle.worker_link.proofs.Queues.{queue_replied}
use Rattle.worker_link.proofs.queue.Queue.replied.Goals as goal

pub invariant_of-self : goal.invariant_of-self
invariant_of-self c =
    queue_replied c.self.inside.sent c.self.inside.ran c.lease-lease.result c.phase_after-self-inside.result c.next.result.now
    (subst (λ (q : Queued). slice_get q.sent q.ran ≡ Some c.next.result.now) (sym c.self.view_is) c.next.ensures)
    c.lease-lease.ensures
    (c.phase_after-self-inside.ensures ∙ ap (λ (b : Bool). if b then Idle else Waiting) (c.is_latest-latest.ensures ∙ ap (λ (v : List (ℕ × Job)). is_latest v c.lease-lease.result) c.as_slice.ensures))
