-- Changes of a book that leave its numbers.
use Rattle.std.specs.Prelude.{◌≡◌}
use Rattle.force_core.specs.Book.{Core}
use Rattle.force_pool.specs.Counting.{starts_of, firsts_of, losses_of}

-- nothing is started, answered or lost, and the book's limits stay
pub record IsQuiet (before after : Core) : Type 0 where
  pub starts : starts_of after.history ≡ starts_of before.history
  pub firsts : firsts_of after.history ≡ firsts_of before.history
  pub losses : losses_of after.history ≡ losses_of before.history
  pub workers : after.workers ≡ before.workers
  pub retries : after.retries ≡ before.retries
  pub copies : after.copies ≡ before.copies
