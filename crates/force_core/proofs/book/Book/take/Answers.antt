use Rattle.force_core.specs.Book.{Core}
use Rattle.force_core.proofs.Replay.{taken-book}
use Rattle.force_core.proofs.book.Book.take.Goals as goal

pub invariant_of-self : goal.invariant_of-self
invariant_of-self g c =
    let s = c.self.inside in
    let b : Core = record { workers = s.workers; retries = s.retries; copies = s.copies; state = record { table = s.table; closed = s.closed }; history = s.history.items; tasks = s.tasks.items; agains = s.agains } in
    rw c.take.ensures.taken (taken-book b c.args.id c.self.invariant.0, c.self.invariant.1, c.self.invariant.2)
