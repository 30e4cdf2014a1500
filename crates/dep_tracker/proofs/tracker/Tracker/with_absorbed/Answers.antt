use Rattle.std.proofs.Common.{refl}
use Rattle.dep_tracker.specs.Tracked.{Absorb}
use Rattle.dep_tracker.proofs.CallsAreTracked.{absorb-new, listed-still, listed-over, lists-over}
use Rattle.dep_tracker.proofs.tracker.Tracker.with_absorbed.Goals as goal

pub absorb-requires : goal.absorb-requires
absorb-requires c = absorb-new _ c.self.invariant.0 c.args.name (rw (← c.self.view_is) at c.requires)

pub track-requires : goal.track-requires
track-requires c =
    let listed = rw (← c.self.view_is) at c.requires in
    listed-over _ _ _ _ _ c.in_ok-absorb.ensures refl (listed-still _ c.self.invariant.0 (Absorb c.args.name c.args.outputs) listed)

pub returns : goal.returns
returns c = rw (← c.self.view_is) (lists-over c.track.result _ _ _ _ _ c.in_ok-absorb.ensures refl c.track.ensures)
