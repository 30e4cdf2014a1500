use Rattle.blob_store.proofs.PairsByName.{IsWhole-empty}
use Rattle.blob_store.proofs.named_bytes.NamedBytes.new.Goals as goal

pub invariant_of-result : goal.invariant_of-result
invariant_of-result c = IsWhole-empty c.new.result.items c.new.ensures.items
