use Rattle.std.proofs.Common.{refl}
use Rattle.dep_tracker.specs.Tracked.{IsReady}
use Rattle.dep_tracker.proofs.EntriesAreFound.{entry-found}
use Rattle.dep_tracker.proofs.ThunksAreReady.{picks_none, picks_next}
use Rattle.dep_tracker.proofs.readying.list_ready.Goals as goal

pub thunks-init : goal.thunks-init
thunks-init c = picks_none _ _ _ refl c.new-ready.ensures.items

pub list_if_ready-requires : goal.list_if_ready-requires
list_if_ready-requires c =
    c.requires c.thunk_at.result.0.now
    (entry-found c.args.graph.now.added c.thunks.place (c.thunk_at.result.0.now, c.thunk_at.result.1.now) c.thunk_at.ensures)

pub thunks-preserved : goal.thunks-preserved
thunks-preserved c =
    picks_next (IsReady c.args.graph.now c.args.barred.now.keys) c.args.graph.now.added c.thunks.place
    (c.thunk_at.result.0.now, c.thunk_at.result.1.now) c.thunks.ready.items c.list_if_ready.new.ready.items
    c.thunk_at.ensures c.thunks.invariant c.in_ok-list_if_ready.ensures
