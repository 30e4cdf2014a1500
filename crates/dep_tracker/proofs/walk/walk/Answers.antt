use Rattle.std.proofs.Common.{reverse}
use Rattle.dep_tracker.specs.Known.{same_ref}
use Rattle.dep_tracker.specs.Reach.{leads_to}
use Rattle.dep_tracker.proofs.WalksGoOn.{steps_at, steps_end, popped, emptied}
use Rattle.dep_tracker.proofs.walk.walk.Goals as goal

pub returns-in_default : goal.returns-in_default
returns-in_default c =
    steps_end same_ref (leads_to c.args.graph.now.absorbed c.args.graph.now.added) c.args.graph.now.roots c.steps.met (reverse c.steps.todo.items) c.steps.invariant
    (emptied _ _ c.steps.todo.items c.pop.new.self.items c.pop.result c.in_default.is c.pop.ensures.items c.pop.ensures.rest c.pop.ensures.cases)

pub steps-preserved : goal.steps-preserved
steps-preserved c =
    steps_at same_ref (leads_to c.args.graph.now.absorbed c.args.graph.now.added) c.args.graph.now.roots c.steps.met (reverse c.steps.todo.items) (reverse c.pop.new.self.items) _ _ c.in-Some.reference
    c.steps.invariant (popped c.steps.todo.items c.pop.new.self.items c.in-Some.reference c.pop.result c.in-Some.is c.pop.ensures.items) c.in_ok-step.ensures
