use Rattle.std.proofs.Common.{◌≡◌}
use Rattle.object_name.specs.Maps.{map_of}
use Rattle.blob_store.proofs.named_bytes.NamedBytes.from_pairs.Given as goal

abbrev pub invariant-pairs : goal.invariant-pairs
invariant-pairs l = l.kept ≡ map_of l.yielded
