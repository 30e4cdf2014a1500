use Rattle.std.proofs.Common.{ap, ◌∙◌}
use Rattle.std.specs.List.{list_any}
use Rattle.dep_tracker.specs.contracts.ref_set.NodePartialEq.TheImpl as node_equality
use Rattle.dep_tracker.proofs.SetsHoldRefs.{node-has}
use Rattle.dep_tracker.proofs.ref_set.RefSet.has.Goals as goal

pub returns : goal.returns
returns c = rw (← c.self.view_is)
    (c.contains.ensures ∙ ap (λ n. list_any ((node_equality.ghosts).eq n) c.self.inside.0.keys) c.of.ensures ∙ node-has c.self.inside.0.keys c.args.reference.now)
