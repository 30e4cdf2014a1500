use Rattle.std.proofs.Common.{◌≡◌, arith, sym, ap, ◌∙◌, Some}
use Rattle.thunk_codec.specs.declared.job.Job.{Job}
use Rattle.lease_table.specs.Table.{choice}
use Rattle.force_core.specs.Book.{Core}
use Rattle.force_core.proofs.Replay.{same-length, started-chosen, started-book, started-room}
use Rattle.force_core.proofs.book.Book.start.Goals as goal

pub job-requires : goal.job-requires
job-requires g c =
    let s = c.self.inside in
    let b : Core = record { workers = s.workers; retries = s.retries; copies = s.copies; state = record { table = s.table; closed = s.closed }; history = s.history.items; tasks = s.tasks.items; agains = s.agains } in
    let q = started-chosen b c.in-Some.id c.self.invariant.0 (sym c.in-Some.ensures) in
    omega (arith, q.within, same-length b c.self.invariant.0)

pub invariant_of-self : goal.invariant_of-self
invariant_of-self g c =
    let s = c.self.inside in
    let b : Core = record { workers = s.workers; retries = s.retries; copies = s.copies; state = record { table = s.table; closed = s.closed }; history = s.history.items; tasks = s.tasks.items; agains = s.agains } in
    let id = c.in-Some.id in
    let choice : choice s.table.copies s.table.rows ≡ Some id = sym c.in-Some.ensures in
    let room = started-room b id c.args.worker c.self.invariant.0 choice in
    let book = started-book b id c.args.worker c.self.invariant.0 c.if-self.false (omega arith) choice in
    rw (c.push_reserved.ensures.items, c.issue-lease.ensures.issued, c.issue-lease.ensures.number) (book, omega (arith, room, c.self.invariant.1, c.push_reserved.ensures.len), omega (arith, c.self.invariant.2, c.push_reserved.ensures.capacity))

pub returns-clause-job : goal.returns-clause-job
returns-clause-job g c = rw (← c.self.view_is) (c.job.ensures.job ∙ ap (λ (j : Job). Some j) (sym c.in_ok-job.ensures))
