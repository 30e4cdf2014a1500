use Rattle.std.proofs.Common.{take}
use Rattle.dep_tracker.specs.Tracked.{Picks, IsReady}
use Rattle.dep_tracker.proofs.readying.list_ready.Given as goal

abbrev pub invariant-thunks : goal.invariant-thunks
invariant-thunks l = Picks (IsReady l.graph l.barred.keys) (take l.place l.graph.added) l.ready.items
