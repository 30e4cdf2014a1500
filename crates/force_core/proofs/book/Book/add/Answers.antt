use Rattle.std.proofs.Common.{◌≡◌, arith, sym, ◌∙◌}
use Rattle.force_core.specs.Book.{Core}
use Rattle.force_core.proofs.Replay.{same-length, offered-book, offered-room}
use Rattle.force_core.proofs.book.Book.add.Goals as goal

pub invariant_of-self-2 : goal.invariant_of-self-2
invariant_of-self-2 g c =
    let s = c.self.inside in
    let b : Core = record { workers = s.workers; retries = s.retries; copies = s.copies; state = record { table = s.table; closed = s.closed }; history = s.history.items; tasks = s.tasks.items; agains = s.agains } in
    let book = offered-book b c.args.prepared.text c.args.prepared.job c.self.invariant.0 in
    let room = offered-room b in
    let entry = c.in_ok-entry.ensures in
    let id = c.in_ok-id.ensures.ok in
    let number = c.in_ok-id.ensures.number in
    let more = c.in-Some.ensures in
    let copies : s.copies ≡ s.table.copies = sym c.self.invariant.0.copies_are in
    rw (c.push_reserved.ensures.items, c.add-2.ensures, c.reserve.ensures.items, c.reserve-2.ensures.items, id, number, entry) (book, omega (arith, room, copies, more, c.self.invariant.1, c.push_reserved.ensures.len, c.reserve.ensures.len), omega (arith, more, c.in_ok-reserve.ensures.ok, c.push_reserved.ensures.capacity, c.reserve.ensures.len, c.len.ensures))

pub returns-clause-number : goal.returns-clause-number
returns-clause-number g c =
    let s = c.self.inside in
    let b : Core = record { workers = s.workers; retries = s.retries; copies = s.copies; state = record { table = s.table; closed = s.closed }; history = s.history.items; tasks = s.tasks.items; agains = s.agains } in
    rw (← c.self.view_is) (c.in_ok-id.ensures.number ∙ same-length b c.self.invariant.0)
