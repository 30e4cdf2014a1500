use Rattle.std.proofs.Common.{◌∙◌, sym}
use Rattle.force_pool.proofs.QuietBooks.{quiet-is}
use Rattle.force_pool.proofs.desk.Desk.start.Goals as goal

pub invariant_of-self-in-None : goal.invariant_of-self-in-None
invariant_of-self-in-None g c =
    let same = rw c.in-None.is at c.in_ok-start.ensures.none in
    let s = c.args.self.now in
    let q = quiet-is s.book c.start.new.self same in
    record { starts_are = s.starts_are ∙ sym q.starts; replies_are = s.replies_are ∙ sym q.firsts; losses_are = s.losses_are ∙ sym q.losses; workers_are = q.workers ∙ s.workers_are; retries_are = q.retries ∙ s.retries_are; copies_are = q.copies ∙ s.copies_are }
