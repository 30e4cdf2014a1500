use Rattle.need_eval.proofs.InputsAreRead.{HasRead}
use Rattle.need_eval.proofs.jobs.input_objects.Given as goal

abbrev pub invariant-inputs : goal.invariant-inputs
invariant-inputs g l =
    HasRead g.K.Keeper.tells g.K.Keeper.store g.K.Keeper.writes g.K.Keeper.faults g.K.Keeper.calls l.retries l.inputs l.initial.keeper l.keeper l.path-index l.read
