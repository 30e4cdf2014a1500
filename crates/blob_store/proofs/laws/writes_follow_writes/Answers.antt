use Rattle.blob_store.proofs.HeldAfterStoring.{written-append}
use Rattle.blob_store.proofs.laws.writes_follow_writes.Goals as goal

pub returns : goal.returns
returns c = written-append
