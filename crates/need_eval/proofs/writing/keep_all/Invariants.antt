use Rattle.need_eval.proofs.OutputsAreWritten.{HasPutSome}
use Rattle.need_eval.proofs.writing.keep_all.Given as goal

abbrev pub invariant-outputs : goal.invariant-outputs
invariant-outputs g l =
    HasPutSome g.K.Keeper.tells g.K.Keeper.store g.K.Keeper.writes g.K.Keeper.faults g.K.Keeper.calls l.retries l.outputs l.initial.keeper l.keeper l.output-index l.names
