use Rattle.blob_store.proofs.HeldAfterStoring.{held-storing-own, held-storing, notes-storing}
use Rattle.blob_store.proofs.laws.storing_displaces_nothing.Goals as goal

pub returns-clause-own : goal.returns-clause-own
returns-clause-own c = held-storing-own

pub returns-clause-others : goal.returns-clause-others
returns-clause-others c = held-storing

pub returns-clause-notes : goal.returns-clause-notes
returns-clause-notes c = notes-storing
