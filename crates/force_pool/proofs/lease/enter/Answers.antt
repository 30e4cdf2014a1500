use Rattle.std.proofs.Common.{◌≡◌, ℕ, List, Some, sym, subst}
use Rattle.thunk_codec.specs.declared.job.Job.{Job}
use Rattle.worker_link.specs.Sent.{only_job}
use Rattle.force_pool.specs.Entering.{DiffersUnlessTold}
use Rattle.force_pool.proofs.RepliesEntered.{reply-fits, reply-outcome, reply-differs}
use Rattle.force_pool.proofs.lease.enter.Goals as goal

pub seal-requires : goal.seal-requires
seal-requires g c = reply-fits g.L.Function.tells g.L.Function.outcome (g.L.Link.jobs c.args.link.now) c.args.lease c.args.outcome c.requires.reply

pub reply-entered-requires-clause-outcome : goal.reply-entered-requires-clause-outcome
reply-entered-requires-clause-outcome g c =
    let only = subst (λ (sent : List (ℕ × Job)). only_job c.args.lease sent ≡ Some c.in-Some.sent.now.1) c.sent.ensures (sym c.in-Some.ensures) in
    rw c.job.ensures (reply-outcome g.L.Function.tells g.L.Function.outcome (g.L.Link.jobs c.args.link.now) c.args.lease c.args.outcome c.in-Some.sent.now.1 only c.requires.reply c.in-Ok.sealed c.in-Ok.ensures)

pub returns-clause-differs : goal.returns-clause-differs
returns-clause-differs g c =
    let only = subst (λ (sent : List (ℕ × Job)). only_job c.args.lease sent ≡ Some c.in-Some.sent.now.1) c.sent.ensures (sym c.in-Some.ensures) in
    reply-differs g.L.Function.tells g.L.Function.outcome (g.L.Link.jobs c.args.link.now) c.args.lease c.args.outcome c.in-Some.sent.now.1 only c.requires.reply c.reply-entered.result
    (subst (λ (job : Job). DiffersUnlessTold (g.L.Function.tells job) c.reply-entered.result) c.job.ensures c.reply-entered.ensures.differs)
