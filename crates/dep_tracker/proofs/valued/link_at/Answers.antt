use Rattle.std.proofs.Common.{sym, subst}
use Rattle.dep_tracker.specs.Reach.{IsValued, given}
use Rattle.dep_tracker.proofs.valued.link_at.Goals as goal

pub returns-in-Value : goal.returns-in-Value
returns-in-Value c = subst (IsValued c.args.graph.now.absorbed) (sym c.in-Value.is) (c.in-Value.field-0, given c.in-Value.field-0)
