use Rattle.std.proofs.Common.{◌≡◌, ◌++◌}
use Rattle.force_pool.specs.Settling.{Settles}
use Rattle.force_pool.proofs.settled.settle.Given as goal

abbrev pub invariant-jobs : goal.invariant-jobs
invariant-jobs g l = Settles l.fn.book l.book l.yielded (record { ids = l.ids.items; left = l.left }) × (l.yielded ++ l.prepared-iterator.rest.items ≡ l.fn.ready)
