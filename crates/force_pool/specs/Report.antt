-- The report of a call: a legal history, and its numbers.
use Rattle.std.specs.Prelude.{◌≡◌, ℕ, true, not, Some}
use Rattle.std.specs.List.{list_any}
use Rattle.force_core.specs.History.{State, start, replay}
use Rattle.force_pool.specs.declared.report.Report.{Report}
use Rattle.force_pool.specs.Counting.{starts_of, firsts_of, losses_of}

-- the history is legal for so many workers, retries and copies, and the numbers are those of its events
pub record IsReport (workers retries copies : ℕ) (r : Report) : Type 0 where
  pub state : State
  pub legal : replay workers (start workers retries copies) r.history ≡ Some state
  pub starts : r.starts ≡ starts_of r.history
  pub replies : r.replies ≡ firsts_of r.history
  pub losses : r.losses ≡ losses_of r.history

-- some job that was offered has no outcome
abbrev pub HasOpenJob : State → Type 0
HasOpenJob state = list_any (λ row. not row.answered) state.table.rows ≡ true

-- after the history of a report some job that was offered has no outcome
pub record LeavesOpenJob (workers retries copies : ℕ) (r : Report) : Type 0 where
  pub state : State
  pub legal : replay workers (start workers retries copies) r.history ≡ Some state
  pub some : HasOpenJob state
