use Rattle.blob_store.proofs.TriesOnKeeper.{IsReading}
use Rattle.blob_store.proofs.retries.get_note_again.Given as goal

abbrev pub invariant-loop-of-try_again : goal.invariant-loop-of-try_again
invariant-loop-of-try_again g l = IsReading g.K.Keeper.tells g.K.Keeper.store g.K.Keeper.writes g.K.Keeper.faults g.K.Keeper.calls l.initial.keeper l.keeper l.tried
