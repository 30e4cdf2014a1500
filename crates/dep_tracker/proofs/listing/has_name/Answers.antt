use Rattle.std.proofs.Common.{ap, ◌∙◌}
use Rattle.std.specs.List.{list_any}
use Rattle.dep_tracker.proofs.NamesAreCompared.{equality_tests}
use Rattle.dep_tracker.proofs.listing.has_name.Goals as goal

pub returns : goal.returns
returns c = c.contains.ensures ∙ ap (λ t. list_any t c.args.names.now.keys) (equality_tests c.args.name.now)
