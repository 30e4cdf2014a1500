use Rattle.blob_store.specs.Keeping.{kept}
use Rattle.file_tree.specs.Files.{filed_in}
use Rattle.build_plan.specs.Symbolic.{applied, begun}
use Rattle.build_plan.proofs.PublicLaws.{stopped_before}
use Rattle.model_binutils.specs.PlanOf.{build_of}
use Rattle.model_binutils.proofs.PlansFit.{planned_fits}
use Rattle.model_binutils.proofs.applying.apply.Goals as goal

pub apply_plan-requires : goal.apply_plan-requires
apply_plan-requires g c = planned_fits c.args.plan.now c.in_ok-made.made c.requires c.in_ok-made.ensures

pub returns-in_err-made-clause-exact : goal.returns-in_err-made-clause-exact
returns-in_err-made-clause-exact g c = λ keeper tree.
    stopped_before (applied (build_of c.args.plan.now) (begun (g.K.Keeper.store c.args.keeper.now) (g.T.Tree.files c.args.tree.now))) (kept g.K.Keeper.store g.K.Keeper.writes) (filed_in g.T.Tree.files g.T.Tree.changes)
    c.args.keeper.now c.args.tree.now _ c.from_residual.ensures
