use Rattle.std.proofs.Common.{refl}
use Rattle.dep_tracker.specs.Known.{has_name}
use Rattle.dep_tracker.specs.Tracked.{Bar}
use Rattle.dep_tracker.proofs.Booleans.{or_true}
use Rattle.dep_tracker.proofs.BarringTakesOff.{room-for, room-left}
use Rattle.dep_tracker.proofs.CallsAreTracked.{bar-new, barred-follows, tracked-after}
use Rattle.dep_tracker.proofs.tracker.Tracker.bar.Goals as goal

pub put_name-requires-clause-new : goal.put_name-requires-clause-new
put_name-requires-clause-new c =
    let listed = rw (← c.self.view_is) at c.requires in
    bar-new _ c.self.invariant.0 c.args.name (or_true (has_name c.self.inside.unknown.keys c.args.name) (has_name c.self.inside.ready.items c.args.name) listed)

pub put_name-requires-clause-room : goal.put_name-requires-clause-room
put_name-requires-clause-room c =
    let listed = rw (← c.self.view_is) at c.requires in
    room-for c.self.inside.unknown.keys c.self.inside.ready.items c.args.name _ (or_true (has_name c.self.inside.unknown.keys c.args.name) (has_name c.self.inside.ready.items c.args.name) listed) c.self.invariant.1

pub invariant_of-self : goal.invariant_of-self
invariant_of-self c =
    let listed = rw (← c.self.view_is) at c.requires in (
      tracked-after _ c.self.invariant.0 (Bar c.args.name) _ listed
          (barred-follows _ c.self.invariant.0 c.args.name _ refl c.put_name.ensures.names c.take_name.ensures c.take_off.ensures),
      room-left c.self.inside.unknown.keys c.self.inside.ready.items _ _ c.args.name _ _ (or_true (has_name c.self.inside.unknown.keys c.args.name) (has_name c.self.inside.ready.items c.args.name) listed) c.take_name.ensures c.take_off.ensures
          c.self.invariant.1 c.put_name.ensures.room,
    )

pub returns-clause-follows : goal.returns-clause-follows
returns-clause-follows c =
    rw (← c.self.view_is) (barred-follows _ c.self.invariant.0 c.args.name _ refl c.put_name.ensures.names c.take_name.ensures c.take_off.ensures)
