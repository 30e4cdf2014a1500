use Rattle.std.proofs.Common.{sym, subst, ap}
use Rattle.force_pool.specs.Account.{Account, Gives}
use Rattle.force_pool.specs.Links.{Mark}
use Rattle.force_pool.proofs.WorkerSums.{gives_fresh}
use Rattle.force_pool.proofs.slot.start_one.Goals as goal

pub spawn_with-requires-clause-keeps : goal.spawn_with-requires-clause-keeps
spawn_with-requires-clause-keeps g c κs within = λ r goes.
    let m : Mark = record { sent = g.L.Link.jobs c.args.link; faults = g.L.Link.faults c.args.link } in
    let begins = subst (λ (a : Account). Gives g.L.Function.tells c.args.retries m.sent m.faults a) (sym c.new-worker.ensures) (gives_fresh g.L.Function.tells c.args.retries m) in
    rw c.of.ensures (goes c.args.retries m.sent m.faults begins)

pub invariant_of-result : goal.invariant_of-result
invariant_of-result g c =
    let m : Mark = record { sent = g.L.Link.jobs c.args.link; faults = g.L.Link.faults c.args.link } in
    let begins = subst (λ (a : Account). Gives g.L.Function.tells c.args.retries m.sent m.faults a) (sym c.new-worker.ensures) (gives_fresh g.L.Function.tells c.args.retries m) in
    (tt, rw (c.of-given.ensures, sym c.requires.retries) (c.spawn_with-worker.ensures c.args.retries m.sent m.faults (rw (ap (λ f. f.3) c.in-Err.ensures.err) begins)))
