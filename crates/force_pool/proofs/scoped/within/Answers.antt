use Rattle.std.proofs.Common.{List, length, ap, sym, ◌∙◌}
use Rattle.force_pool.specs.Links.{Mark}
use Rattle.force_pool.proofs.WorkerSums.{parts_same}
use Rattle.force_pool.proofs.scoped.within.Goals as goal

pub returns-clause-parts : goal.returns-clause-parts
returns-clause-parts g c =
    let slots = c.walk-walked.ensures.slots ∙ c.start_all-slots.ensures.slots in
    parts_same c.start_all-slots.result.1.parts c.args.ready.parts c.collect-tally.result.parts (length c.args.ready.marks) (length c.walk-walked.new.slots.items) (sym (ap (λ (l : List Mark). length l) slots)) c.start_all-slots.ensures.tally.parts c.collect-tally.ensures.parts
