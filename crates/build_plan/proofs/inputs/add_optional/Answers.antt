use Rattle.std.proofs.Common.{Some, refl}
use Rattle.blob_store.specs.Keeping.{kept}
use Rattle.file_tree.specs.Files.{filed_in}
use Rattle.file_tree.proofs.PublicLaws.{same_filed}
use Rattle.build_plan.specs.Applying.{sides}
use Rattle.build_plan.specs.StepContracts.{Goes, grown, more_refs}
use Rattle.build_plan.specs.Way.{optional_input}
use Rattle.build_plan.proofs.CountsAddUp.{fares-files, fares-keeper, fares-none, fares-then, handed-fares}
use Rattle.build_plan.proofs.InputsInOrder.{completed-by, completed-none, on-ok, optional-none, optional-stop, optional-then}
use Rattle.build_plan.proofs.WorkGoesOn.{handed}
use Rattle.build_plan.proofs.inputs.add_optional.Goals as goal

pub returns-in_default-clause-goes : goal.returns-in_default-clause-goes
returns-in_default-clause-goes g c kept_told files_told items = rw c.in_default.is (optional-none items c.args.refs.now (g.T.Tree.files c.args.tree.now) (kept g.K.Keeper.store g.K.Keeper.writes c.args.keeper.now) (filed_in g.T.Tree.files g.T.Tree.changes c.args.tree.now))

pub returns-in_default-clause-paths : goal.returns-in_default-clause-paths
returns-in_default-clause-paths g c = rw c.in_default.is (completed-none _ _ refl)

pub returns-in_default-clause-fares : goal.returns-in_default-clause-fares
returns-in_default-clause-fares g c = fares-none _ _ _ _ _ _ _ _ _ _ tt

pub returns-in_err-item-clause-goes : goal.returns-in_err-item-clause-goes
returns-in_err-item-clause-goes g c kept_told files_told items = rw c.in-Some.is
    (let same = same_filed g.T.Tree.files g.T.Tree.changes c.args.tree.now c.read_if_there.new.tree (c.in_err-item.ensures.reads.same files_told) (c.in_err-item.ensures.reads.list files_told) in
    handed (λ r. Goes (more_refs items c.args.refs.now (optional_input (g.T.Tree.files c.args.tree.now) (Some (c.in-Some.place, c.in-Some.path)))) 0 (sides (kept g.K.Keeper.store g.K.Keeper.writes) (filed_in g.T.Tree.files g.T.Tree.changes) c.args.keeper.now c.args.keeper.now c.args.tree.now c.read_if_there.new.tree) (grown r c.args.refs.now)) c.from_residual.result c.in_err-item.field-0.0 c.from_residual.ensures
    (optional-stop items c.args.refs.now c.in-Some.place c.in-Some.path (kept g.K.Keeper.store g.K.Keeper.writes c.args.keeper.now) (kept g.K.Keeper.store g.K.Keeper.writes c.args.keeper.now) (filed_in g.T.Tree.files g.T.Tree.changes c.args.tree.now) (filed_in g.T.Tree.files g.T.Tree.changes c.read_if_there.new.tree) (filed_in g.T.Tree.files g.T.Tree.changes c.read_if_there.new.tree) same
    c.in_err-item.field-0.0 (c.in_err-item.ensures.exact files_told)))

pub returns-in_err-item-clause-fares : goal.returns-in_err-item-clause-fares
returns-in_err-item-clause-fares g c = handed-fares _ _ _ _ _ _ _ _ _ _ _ _ _ c.from_residual.ensures (fares-files _ _ _ _ _ _ _ _ _ _ _ c.in_err-item.ensures.reads.fares)

pub returns-clause-goes : goal.returns-clause-goes
returns-clause-goes g c kept_told files_told items = rw c.in-Some.is
    (let same = same_filed g.T.Tree.files g.T.Tree.changes c.args.tree.now c.read_if_there.new.tree (c.in_ok-item.ensures.reads.same files_told) (c.in_ok-item.ensures.reads.list files_told) in
    optional-then items c.args.refs.now c.in-Some.place c.in-Some.path (kept g.K.Keeper.store g.K.Keeper.writes c.args.keeper.now) (kept g.K.Keeper.store g.K.Keeper.writes c.add_read.new.keeper) (filed_in g.T.Tree.files g.T.Tree.changes c.args.tree.now) (filed_in g.T.Tree.files g.T.Tree.changes c.read_if_there.new.tree) (filed_in g.T.Tree.files g.T.Tree.changes c.read_if_there.new.tree) same
    c.in_ok-item.item (grown c.add_read.result c.add_read.new.refs) (c.in_ok-item.ensures.exact files_told) (c.add_read.ensures.goes kept_told (filed_in g.T.Tree.files g.T.Tree.changes c.read_if_there.new.tree)))

pub returns-clause-paths : goal.returns-clause-paths
returns-clause-paths g c = rw c.in-Some.is (on-ok c.add_read.result (completed-by _ _ c.in-Some.place c.in-Some.path _) c.add_read.ensures.paths)

pub returns-clause-fares : goal.returns-clause-fares
returns-clause-fares g c = fares-then _ _ _ _ _ _ _ _ _ _ _ _ _ _ _ (fares-files _ _ _ _ _ _ _ _ _ _ _ c.in_ok-item.ensures.reads.fares) (fares-keeper _ _ _ _ _ _ _ _ _ _ _ c.add_read.ensures.fares)
