use Rattle.blob_store.proofs.HeldAfterPut.{held-put-other}
use Rattle.blob_store.proofs.laws.puts_leave_others.Goals as goal

pub returns : goal.returns
returns c = held-put-other
