use Rattle.reduction_cache.proofs.Names.{Going}
use Rattle.reduction_cache.proofs.note.names_at.Given as goal

abbrev pub invariant-names : goal.invariant-names
invariant-names l = Going l.bytes l.names l.rest l.counter
