use Rattle.std.proofs.Common.{ap, ◌∙◌}
use Rattle.std.specs.Map.{lookup}
use Rattle.dep_tracker.proofs.NamesAreCompared.{equality_tests}
use Rattle.dep_tracker.proofs.graph.Graph.thunk.Goals as goal

pub returns : goal.returns
returns c = rw (← c.self.view_is) (c.get.ensures.value ∙ ap (λ t. lookup t c.self.inside.added.entries) (equality_tests c.args.name.now))
