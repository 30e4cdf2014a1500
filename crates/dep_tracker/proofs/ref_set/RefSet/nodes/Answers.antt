use Rattle.std.proofs.Common.{map, ap, ◌∙◌}
use Rattle.dep_tracker.specs.RefSet.{ref_of}
use Rattle.dep_tracker.proofs.ref_set.RefSet.nodes.Goals as goal

pub returns : goal.returns
returns c = rw (← c.self.view_is) (ap (map ref_of) c.as_slice.ensures.keys)
