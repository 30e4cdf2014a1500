use Rattle.std.proofs.Common.{subst}
use Rattle.object_name.specs.Causes.{TriesAtMost}
use Rattle.object_name.specs.Name.{ObjectName}
use Rattle.gg_cli.specs.Answer.{name_line}
use Rattle.gg_cli.proofs.WorkMakesTheAnswer.{work_cause, work_ends, work_unfiled, work_unkept}
use Rattle.gg_cli.proofs.create_command.create_thunk.Goals as goal

pub returns-in-Err-clause-ends : goal.returns-in-Err-clause-ends
returns-in-Err-clause-ends g c kept files = work_ends name_line _ _ _ _ _ _ (c.in-Err.ensures.exact kept files) c.work_fault.ensures.is_fault

pub returns-in-Err-clause-cause : goal.returns-in-Err-clause-cause
returns-in-Err-clause-cause g c = work_cause ObjectName _ _ _ _ _ c.in-Err.ensures.cause c.work_fault.ensures.is_fault

pub returns-in-Err-clause-kept_tries : goal.returns-in-Err-clause-kept_tries
returns-in-Err-clause-kept_tries g c kept =
    subst (TriesAtMost c.args.retries g.K.Keeper.calls g.K.Keeper.faults c.args.keeper.now c.create.new.keeper) (work_unkept ObjectName _ _ _ c.work_fault.ensures.is_fault) (c.in-Err.ensures.kept_tries kept)

pub returns-in-Err-clause-file_tries : goal.returns-in-Err-clause-file_tries
returns-in-Err-clause-file_tries g c files =
    subst (TriesAtMost c.args.retries g.T.Tree.calls g.T.Tree.faults c.args.tree.now c.create.new.tree) (work_unfiled ObjectName _ _ _ c.work_fault.ensures.is_fault) (c.in-Err.ensures.file_tries files)
