use Rattle.tracker_cases.proofs.NamesAreListed.{listed_if}
use Rattle.tracker_cases.proofs.tracked.listed_at.Goals as goal

pub returns : goal.returns
returns c = listed_if _ _ _ c.name_at.ensures
