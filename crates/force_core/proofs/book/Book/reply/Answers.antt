use Rattle.std.proofs.Common.{◌≡◌, arith, refl, sym, ap, ◌∙◌, Some, set}
use Rattle.lease_table.specs.Table.{job_of}
use Rattle.force_core.specs.Book.{Core, Task}
use Rattle.force_core.proofs.Replay.{same-length, leased-within, first-book, first-room, set-same, again-book}
use Rattle.force_core.proofs.book.Book.reply.Goals as goal

pub reply-requires-clause-within : goal.reply-requires-clause-within
reply-requires-clause-within g c =
    let s = c.self.inside in
    let b : Core = record { workers = s.workers; retries = s.retries; copies = s.copies; state = record { table = s.table; closed = s.closed }; history = s.history.items; tasks = s.tasks.items; agains = s.agains } in
    omega (arith, leased-within b c.args.lease c.in-Some.id c.self.invariant.0 (sym c.in-Some.ensures), same-length b c.self.invariant.0)

pub answer-requires : goal.answer-requires
answer-requires g c =
    let s = c.self.inside in
    let b : Core = record { workers = s.workers; retries = s.retries; copies = s.copies; state = record { table = s.table; closed = s.closed }; history = s.history.items; tasks = s.tasks.items; agains = s.agains } in
    leased-within b c.args.lease c.in-Some.id c.self.invariant.0 (sym c.in-Some.ensures)

pub push_reserved-requires : goal.push_reserved-requires
push_reserved-requires g c =
    let s = c.self.inside in
    let b : Core = record { workers = s.workers; retries = s.retries; copies = s.copies; state = record { table = s.table; closed = s.closed }; history = s.history.items; tasks = s.tasks.items; agains = s.agains } in
    let r = c.in-First.ensures.replied in
    omega (arith, c.self.invariant.1, c.self.invariant.2, first-room b c.args.lease c.in-Some.id r.task c.self.invariant.0 (sym c.in-Some.ensures) r.found r.replied.0)

pub invariant_of-self : goal.invariant_of-self
invariant_of-self g c =
    let s = c.self.inside in
    let b : Core = record { workers = s.workers; retries = s.retries; copies = s.copies; state = record { table = s.table; closed = s.closed }; history = s.history.items; tasks = s.tasks.items; agains = s.agains } in
    let r = c.in-First.ensures.replied in
    let leased : job_of s.table c.args.lease ≡ Some c.in-Some.id = sym c.in-Some.ensures in
    let book = rw leased at (first-book b c.args.lease c.in-Some.id r.task c.args.sealed c.self.invariant.0 leased r.found r.replied.0) in
    let room = rw leased at (first-room b c.args.lease c.in-Some.id r.task c.self.invariant.0 leased r.found r.replied.0) in
    rw (c.push_reserved.ensures.items, c.answer.ensures, r.set, r.replied.1) (book, omega (arith, room, c.self.invariant.1, c.push_reserved.ensures.len), omega (arith, c.self.invariant.2, c.push_reserved.ensures.capacity))

pub invariant_of-self-in-Again : goal.invariant_of-self-in-Again
invariant_of-self-in-Again g c =
    let s = c.self.inside in
    let b : Core = record { workers = s.workers; retries = s.retries; copies = s.copies; state = record { table = s.table; closed = s.closed }; history = s.history.items; tasks = s.tasks.items; agains = s.agains } in
    let r = c.in-Again.ensures.replied in
    let same = r.set ∙ ap (λ (t : Task). set c.self.inside.tasks.items c.in-Some.id t) r.replied.1 ∙ set-same c.self.inside.tasks.items c.in-Some.id r.task r.found in
    rw same (again-book b c.self.invariant.0 c.saturating_add-self-inside.result, c.self.invariant.1, c.self.invariant.2)

pub invariant_of-self-in-Differs : goal.invariant_of-self-in-Differs
invariant_of-self-in-Differs g c =
    let r = c.in-Differs.ensures.replied in
    let same = r.set ∙ ap (λ (t : Task). set c.self.inside.tasks.items c.in-Some.id t) r.replied.4 ∙ set-same c.self.inside.tasks.items c.in-Some.id r.task r.found in
    rw same c.self.invariant

pub returns-in-Again-clause-answer : goal.returns-in-Again-clause-answer
returns-in-Again-clause-answer g c =
    let s = c.self.inside in
    let r = c.in-Again.ensures.replied in
    let same = r.set ∙ ap (λ (t : Task). set c.self.inside.tasks.items c.in-Some.id t) r.replied.1 ∙ set-same c.self.inside.tasks.items c.in-Some.id r.task r.found in
    let leased : job_of s.table c.args.lease ≡ Some c.in-Some.id = sym c.in-Some.ensures in
    rw (← c.self.view_is) (c.in-Some.id, r.task, record { leased = leased; found = r.found }, r.replied.0, rw (same, c.saturating_add-self-inside.ensures) refl)

pub returns-in-Differs-clause-answer : goal.returns-in-Differs-clause-answer
returns-in-Differs-clause-answer g c =
    let s = c.self.inside in
    let r = c.in-Differs.ensures.replied in
    let same = r.set ∙ ap (λ (t : Task). set c.self.inside.tasks.items c.in-Some.id t) r.replied.4 ∙ set-same c.self.inside.tasks.items c.in-Some.id r.task r.found in
    let leased : job_of s.table c.args.lease ≡ Some c.in-Some.id = sym c.in-Some.ensures in
    rw (← c.self.view_is) (c.in-Some.id, r.task, r.replied.0, record { leased = leased; found = r.found }, r.replied.1, r.replied.2, r.replied.3, rw same refl)
