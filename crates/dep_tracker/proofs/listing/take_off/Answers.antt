use Rattle.std.proofs.Common.{not, rules}
use Rattle.std.proofs.lemmas.Fn.{filter_same}
use Rattle.dep_tracker.specs.Known.{same_name}
use Rattle.dep_tracker.proofs.listing.take_off.Goals as goal

pub returns : goal.returns
returns c = filter_same _ (λ other. not (same_name c.args.name.now other)) _ (λ x b f' k. search rules) _ _ c.retain.ensures.filtered
