use Rattle.reduction_cache.proofs.Notes.{no_rest}
use Rattle.reduction_cache.proofs.laws.no_prefix.Goals as goal

pub returns : goal.returns
returns c = no_rest
