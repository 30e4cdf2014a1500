use Rattle.std.proofs.Common.{◌∙◌, arith}
use Rattle.force_core.proofs.Indexed.{index-kept}
use Rattle.force_core.proofs.tasks.Tasks.reserve.Goals as goal

pub invariant_of-self-in_err-reserve-2 : goal.invariant_of-self-in_err-reserve-2
invariant_of-self-in_err-reserve-2 g c =
    rw c.reserve.ensures.items (
      omega (arith, c.self.invariant.0, c.reserve.ensures.len, c.reserve.ensures.capacity),
      c.self.invariant.1,
      c.self.invariant.2,
      c.self.invariant.3,
      index-kept c.self.inside.index c.reserve-2.new.self c.self.inside.entries.items c.self.invariant.4 (λ name id led. c.reserve-2.ensures.same name id ∙ led),
      c.self.invariant.5,
      λ more. c.reserve-2.ensures.room (c.self.invariant.6 more),
    )
