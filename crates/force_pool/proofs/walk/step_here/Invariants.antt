use Rattle.std.specs.Prelude.{◌≡◌}
use Rattle.force_pool.proofs.walk.step_here.Given as goal

abbrev pub invariant-slots : goal.invariant-slots
invariant-slots g l = l.slots.items ≡ l.fn.slots.items
