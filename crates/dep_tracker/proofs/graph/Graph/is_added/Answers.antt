use Rattle.std.proofs.Common.{is_some, ap, ◌∙◌}
use Rattle.std.specs.Map.{lookup}
use Rattle.dep_tracker.proofs.NamesAreCompared.{equality_tests}
use Rattle.dep_tracker.proofs.graph.Graph.is_added.Goals as goal

pub returns : goal.returns
returns c = rw (← c.self.view_is) (c.contains_key.ensures ∙ ap (λ t. is_some (lookup t c.self.inside.added.entries)) (equality_tests c.args.name.now))
