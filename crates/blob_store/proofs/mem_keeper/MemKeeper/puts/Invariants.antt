use Rattle.std.proofs.Common.{◌≡◌, map, take}
use Rattle.blob_store.specs.Puts.{write_of, write_name}
use Rattle.blob_store.proofs.mem_keeper.MemKeeper.puts.Given as goal

abbrev pub invariant-puts : goal.invariant-puts
invariant-puts l = l.names ≡ map write_name (map write_of (take l.put-index l.put-items))
