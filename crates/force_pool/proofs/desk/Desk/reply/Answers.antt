use Rattle.std.proofs.Common.{◌∙◌, sym}
use Rattle.force_pool.proofs.QuietBooks.{quiet-is, quiet-closing, quiet-trans}
use Rattle.force_pool.proofs.desk.Desk.reply.Goals as goal

pub invariant_of-self-in-Differs : goal.invariant_of-self-in-Differs
invariant_of-self-in-Differs g c =
    let s = c.args.self.now in
    let mid = c.reply.new.self in
    let q = quiet-trans s.book mid c.close.new.self (quiet-is s.book mid c.in-Differs.ensures.answer.7) (rw c.close.ensures (quiet-closing mid.state.closed mid)) in
    record { starts_are = s.starts_are ∙ sym q.starts; replies_are = s.replies_are ∙ sym q.firsts; losses_are = s.losses_are ∙ sym q.losses; workers_are = q.workers ∙ s.workers_are; retries_are = q.retries ∙ s.retries_are; copies_are = q.copies ∙ s.copies_are }
