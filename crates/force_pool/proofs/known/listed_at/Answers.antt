use Rattle.force_pool.proofs.ReadsAhead.{listed_if}
use Rattle.force_pool.proofs.known.listed_at.Goals as goal

pub returns : goal.returns
returns c = listed_if _ _ _ c.name_at.ensures
