-- Numbers of events.
use Rattle.std.specs.Prelude.{ℕ, List, Bool, true, false}
use Rattle.std.specs.List.{count_by}
use Rattle.force_core.specs.declared.event.Event.{Event}
use Rattle.force_core.specs.declared.event.Event.TheVariants.{Offered, Started, First, Lost, Closed}

-- whether an event is the start of a lease
abbrev pub is_start : Event → Bool
is_start (Offered id) = false
is_start (Started lease id worker) = true
is_start (First lease) = false
is_start (Lost lease) = false
is_start Closed = false

-- whether an event is the first outcome of a job
abbrev pub is_first : Event → Bool
is_first (Offered id) = false
is_first (Started lease id worker) = false
is_first (First lease) = true
is_first (Lost lease) = false
is_first Closed = false

-- whether an event is the loss of a lease
abbrev pub is_loss : Event → Bool
is_loss (Offered id) = false
is_loss (Started lease id worker) = false
is_loss (First lease) = false
is_loss (Lost lease) = true
is_loss Closed = false

abbrev pub starts_of : List Event → ℕ
starts_of history = count_by is_start history

abbrev pub firsts_of : List Event → ℕ
firsts_of history = count_by is_first history

abbrev pub losses_of : List Event → ℕ
losses_of history = count_by is_loss history
