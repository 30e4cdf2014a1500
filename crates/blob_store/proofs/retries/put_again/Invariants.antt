use Rattle.blob_store.specs.Store.Write.{Object}
use Rattle.blob_store.proofs.TriesOnKeeper.{IsWriting}
use Rattle.blob_store.proofs.retries.put_again.Given as goal

abbrev pub invariant-loop-of-try_again : goal.invariant-loop-of-try_again
invariant-loop-of-try_again g l = IsWriting g.K.Keeper.tells g.K.Keeper.store g.K.Keeper.writes g.K.Keeper.faults g.K.Keeper.calls (Object l.name l.bytes) l.initial.keeper l.keeper l.tried
