use Rattle.dep_tracker.specs.Tracked.{Add}
use Rattle.dep_tracker.proofs.CallsAreTracked.{add-new, listed-still, listed-over, lists-over}
use Rattle.dep_tracker.proofs.tracker.Tracker.with_added.Goals as goal

pub add-requires : goal.add-requires
add-requires c = add-new _ c.self.invariant.0 c.args.name (rw (← c.self.view_is) at c.requires)

pub track-requires : goal.track-requires
track-requires c =
    let listed = rw (← c.self.view_is) at c.requires in
    listed-over _ _ _ _ _ c.in_ok-add.ensures c.take_name.ensures (listed-still _ c.self.invariant.0 (Add c.args.name c.args.thunk) listed)

pub returns : goal.returns
returns c = rw (← c.self.view_is) (lists-over c.track.result _ _ _ _ _ c.in_ok-add.ensures c.take_name.ensures c.track.ensures)
