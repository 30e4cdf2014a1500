use Rattle.std.proofs.Common.{subst}
use Rattle.blob_store.specs.Keeping.{kept}
use Rattle.file_tree.specs.Files.{filed_in}
use Rattle.build_plan.specs.declared.plan.Plan.{Plan}
use Rattle.build_plan.specs.Symbolic.{applied, begun}
use Rattle.build_plan.specs.Applying.{Does, sides}
use Rattle.build_plan.proofs.PublicLaws.{stopped_before}
use Rattle.model_gcc.specs.PlanOf.{build_of}
use Rattle.model_gcc.proofs.PlansFit.{plans_fit}
use Rattle.model_gcc.proofs.applying.apply.Goals as goal

pub apply_plan-requires : goal.apply_plan-requires
apply_plan-requires g c = rw c.in_ok-steps.ensures (plans_fit c.requires.0 c.args.plan.now c.requires.1)

pub returns-in_err-steps-clause-exact : goal.returns-in_err-steps-clause-exact
returns-in_err-steps-clause-exact g c = λ keeper tree.
    stopped_before (applied (build_of c.args.plan.now) (begun (g.K.Keeper.store c.args.keeper.now) (g.T.Tree.files c.args.tree.now))) (kept g.K.Keeper.store g.K.Keeper.writes) (filed_in g.T.Tree.files g.T.Tree.changes)
    c.args.keeper.now c.args.tree.now _ c.from_residual.ensures

pub returns-clause-exact : goal.returns-clause-exact
returns-clause-exact g c = λ keeper tree.
    subst (λ (v : Plan). Does (applied v (begun (g.K.Keeper.store c.args.keeper.now) (g.T.Tree.files c.args.tree.now)))
    (sides (kept g.K.Keeper.store g.K.Keeper.writes) (filed_in g.T.Tree.files g.T.Tree.changes) c.args.keeper.now c.apply_plan.new.keeper c.args.tree.now c.apply_plan.new.tree) c.apply_plan.result)
    c.in_ok-steps.ensures (c.apply_plan.ensures.exact keeper tree)
