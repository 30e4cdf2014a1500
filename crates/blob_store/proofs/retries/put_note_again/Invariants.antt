use Rattle.blob_store.specs.Store.Write.{Note}
use Rattle.blob_store.proofs.TriesOnKeeper.{IsWriting}
use Rattle.blob_store.proofs.retries.put_note_again.Given as goal

abbrev pub invariant-loop-of-try_again : goal.invariant-loop-of-try_again
invariant-loop-of-try_again g l = IsWriting g.K.Keeper.tells g.K.Keeper.store g.K.Keeper.writes g.K.Keeper.faults g.K.Keeper.calls (Note l.name l.bytes) l.initial.keeper l.keeper l.tried
