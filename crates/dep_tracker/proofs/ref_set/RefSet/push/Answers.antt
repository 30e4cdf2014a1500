use Rattle.std.proofs.Common.{map, ap, ◌∙◌}
use Rattle.indexmap.specs.IndexSet.{insert_key}
use Rattle.dep_tracker.specs.RefSet.{ref_of}
use Rattle.dep_tracker.specs.contracts.ref_set.NodePartialEq.TheImpl as node_equality
use Rattle.dep_tracker.proofs.SetsHoldRefs.{node-last}
use Rattle.dep_tracker.proofs.ref_set.RefSet.push.Goals as goal

pub returns : goal.returns
returns c =
    let new = rw (← c.self.view_is) at c.requires in
    rw (← c.self.view_is) (ap (map ref_of) (c.in_ok-insert.ensures.keys ∙ ap (insert_key (node_equality.ghosts).eq c.self.inside.0.keys) c.of.ensures)
    ∙ node-last c.self.inside.0.keys c.args.reference.now new)
