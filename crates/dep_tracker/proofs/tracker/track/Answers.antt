use Rattle.std.proofs.Common.{refl, arith}
use Rattle.dep_tracker.proofs.CallsAreTracked.{lists-tracked}
use Rattle.dep_tracker.proofs.tracker.track.Goals as goal

pub invariant_of-result : goal.invariant_of-result
invariant_of-result c = (
  lists-tracked c.args.graph c.args.barred.keys c.args.unknown.keys _ c.requires (record {
    same_known = refl;
    same_barred = c.reserve.ensures.keys;
    reach = c.in_ok-reach.reach;
    walk = c.in_ok-reach.ensures;
    unknown = c.in_ok-list_new.ensures;
    ready = c.in_ok-ready.ensures;
  }),
  omega (arith, c.len.ensures.len, c.len-2.ensures, c.in_ok-reserve.ensures.ok, c.in_ok-ready.ready.ok),
)

pub returns : goal.returns
returns c = record {
  same_known = refl;
  same_barred = c.reserve.ensures.keys;
  reach = c.in_ok-reach.reach;
  walk = c.in_ok-reach.ensures;
  unknown = c.in_ok-list_new.ensures;
  ready = c.in_ok-ready.ensures;
}
