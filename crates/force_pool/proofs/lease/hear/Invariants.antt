use Rattle.std.specs.Prelude.{◌≡◌, ◌≤◌}
use Rattle.worker_link.specs.declared.phase.Phase.TheVariants.{Waiting}
use Rattle.force_pool.proofs.lease.hear.Given as goal

abbrev pub invariant-replies : goal.invariant-replies
invariant-replies g l =
    (g.L.Link.phase l.link ≡ Waiting) × (g.L.Link.jobs l.link ≡ g.L.Link.jobs l.fn.link) × (g.L.Link.faults l.fn.link ≤ g.L.Link.faults l.link)
    × (l.mine.parts ≡ l.fn.mine.parts) × (l.fn.mine.amount ≤ l.mine.amount)
