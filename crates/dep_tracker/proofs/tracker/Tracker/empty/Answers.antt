use Rattle.std.proofs.Common.{arith, ap, length, ◌∙◌}
use Rattle.dep_tracker.specs.Known.{begun}
use Rattle.dep_tracker.proofs.CallsAreTracked.{nothing-tracked}
use Rattle.dep_tracker.proofs.tracker.Tracker.empty.Goals as goal

pub invariant_of-result : goal.invariant_of-result
invariant_of-result c = (
  nothing-tracked _ _ _ _ (c.new-2.ensures ∙ ap begun c.new.ensures) c.new-3.ensures.empty c.new-4.ensures.empty c.new-5.ensures.items,
  grind (arith, ap length c.new-4.ensures.empty, ap length c.new-5.ensures.items),
)
