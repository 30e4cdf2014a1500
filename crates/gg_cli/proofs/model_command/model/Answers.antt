use Rattle.std.proofs.Common.{subst}
use Rattle.blob_store.specs.Keeping.{kept}
use Rattle.file_tree.specs.Files.{filed_in}
use Rattle.object_name.specs.Causes.{TriesAtMost}
use Rattle.object_name.proofs.PublicLaws.{tries-none}
use Rattle.gg_cli.specs.StepContracts.{work_counts}
use Rattle.gg_cli.proofs.ReadingMakesTheAnswer.{stops_end}
use Rattle.gg_cli.proofs.WorkMakesTheAnswer.{plan_cause, plan_stops, plan_unfiled, plan_unkept}
use Rattle.gg_cli.proofs.model_command.model.Goals as goal

pub returns-in-Ok-clause-ends : goal.returns-in-Ok-clause-ends
returns-in-Ok-clause-ends g c tells tell told = rw c.in-Ok.ensures.exact (c.apply.ensures.ends tells tell told)

pub returns-in-Err-clause-ends : goal.returns-in-Err-clause-ends
returns-in-Err-clause-ends g c tells tell told =
    stops_end (kept g.K.Keeper.store g.K.Keeper.writes c.args.keeper.now) (filed_in g.T.Tree.files g.T.Tree.changes c.args.tree.now) told _ _
    (plan_stops c.args.words.now _ _ _ _ c.in-Err.ensures.exact c.plan_fault.ensures.is_fault)

pub returns-in-Err-clause-cause : goal.returns-in-Err-clause-cause
returns-in-Err-clause-cause g c = plan_cause c.args.words.now c.args.retries
    (work_counts (g.K.Keeper.faults c.args.keeper.now) (g.K.Keeper.faults c.args.keeper.now) (g.T.Tree.faults c.args.tree.now) (g.T.Tree.faults c.args.tree.now)) _ _ c.plan_fault.ensures.is_fault

pub returns-in-Err-clause-kept_tries : goal.returns-in-Err-clause-kept_tries
returns-in-Err-clause-kept_tries g c kept =
    subst (TriesAtMost c.args.retries g.K.Keeper.calls g.K.Keeper.faults c.args.keeper.now c.args.keeper.now) (plan_unkept c.args.words.now _ _ c.plan_fault.ensures.is_fault)
    (tries-none c.args.retries g.K.Keeper.calls g.K.Keeper.faults c.args.keeper.now)

pub returns-in-Err-clause-file_tries : goal.returns-in-Err-clause-file_tries
returns-in-Err-clause-file_tries g c files =
    subst (TriesAtMost c.args.retries g.T.Tree.calls g.T.Tree.faults c.args.tree.now c.args.tree.now) (plan_unfiled c.args.words.now _ _ c.plan_fault.ensures.is_fault)
    (tries-none c.args.retries g.T.Tree.calls g.T.Tree.faults c.args.tree.now)
