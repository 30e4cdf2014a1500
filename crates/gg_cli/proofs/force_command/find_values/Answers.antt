use Rattle.std.proofs.Common.{subst}
use Rattle.object_name.specs.Causes.{TriesAtMost}
use Rattle.gg_cli.proofs.TriesAddUp.{eval-fails}
use Rattle.gg_cli.proofs.StepsMakeTheAnswer.{values_found, fault_found}
use Rattle.gg_cli.proofs.force_command.find_values.Goals as goal

pub returns-in-Ok-clause-values : goal.returns-in-Ok-clause-values
returns-in-Ok-clause-values g c told = values_found _ _ _ _ _ (c.in-Ok.ensures.exact told)

pub returns-in-Err-clause-values : goal.returns-in-Err-clause-values
returns-in-Err-clause-values g c told = fault_found _ _ _ _ _ _ (c.in-Err.ensures.exact told) c.fault_of.ensures.is_fault

pub returns-in-Err-clause-kept_tries : goal.returns-in-Err-clause-kept_tries
returns-in-Err-clause-kept_tries g c told = subst (TriesAtMost c.args.retries g.K.Keeper.calls g.K.Keeper.faults c.args.keeper.now c.evaluate.new.keeper) (eval-fails _ _ c.fault_of.ensures.is_fault) (c.in-Err.ensures.tries told)
