use Rattle.std.proofs.Common.{Ok, Err}
use Rattle.blob_store.specs.Keeping.{kept}
use Rattle.file_tree.specs.Files.{filed_in}
use Rattle.file_tree.proofs.PublicLaws.{same_filed}
use Rattle.build_plan.specs.Applying.{sides}
use Rattle.build_plan.specs.StepContracts.{Goes, file_ref}
use Rattle.build_plan.specs.Symbolic.{read_item, ref_of_item}
use Rattle.build_plan.proofs.CountsAddUp.{fares-files, fares-keeper, fares-then, handed-fares}
use Rattle.build_plan.proofs.FilesAreFound.{goes-read}
use Rattle.build_plan.proofs.WorkGoesOn.{goes-bind, goes-then, handed}
use Rattle.build_plan.proofs.WritesGrow.{grows-ref_of_item}
use Rattle.build_plan.proofs.inputs.file_ref.Goals as goal

pub returns-in_err-item-clause-goes : goal.returns-in_err-item-clause-goes
returns-in_err-item-clause-goes g c kept_told files_told =
    let a = kept g.K.Keeper.store g.K.Keeper.writes c.args.keeper.now in
    let f = filed_in g.T.Tree.files g.T.Tree.changes c.args.tree.now in
    let g_ = filed_in g.T.Tree.files g.T.Tree.changes c.read_item.new.tree in
    let same = same_filed g.T.Tree.files g.T.Tree.changes c.args.tree.now c.read_item.new.tree (c.in_err-item.ensures.reads.same files_told) (c.in_err-item.ensures.reads.list files_told) in
    handed (Goes (file_ref c.args.path.now) 0 (sides (kept g.K.Keeper.store g.K.Keeper.writes) (filed_in g.T.Tree.files g.T.Tree.changes) c.args.keeper.now c.args.keeper.now c.args.tree.now c.read_item.new.tree)) _ _ c.from_residual.ensures
    (goes-bind (read_item c.args.path.now) ref_of_item 0 0 _ _ grows-ref_of_item (goes-read a f g_ same c.args.path.now (Err c.in_err-item.field-0.0) (c.in_err-item.ensures.exact files_told)))

pub returns-in_err-item-clause-fares : goal.returns-in_err-item-clause-fares
returns-in_err-item-clause-fares g c = handed-fares _ _ _ _ _ _ _ _ _ _ _ _ _ c.from_residual.ensures (fares-files _ _ _ _ _ _ _ _ _ _ _ c.in_err-item.ensures.reads.fares)

pub returns-clause-goes : goal.returns-clause-goes
returns-clause-goes g c kept_told files_told =
    let a = kept g.K.Keeper.store g.K.Keeper.writes c.args.keeper.now in
    let b = kept g.K.Keeper.store g.K.Keeper.writes c.store_item.new.keeper in
    let f = filed_in g.T.Tree.files g.T.Tree.changes c.args.tree.now in
    let g_ = filed_in g.T.Tree.files g.T.Tree.changes c.read_item.new.tree in
    let same = same_filed g.T.Tree.files g.T.Tree.changes c.args.tree.now c.read_item.new.tree (c.in_ok-item.ensures.reads.same files_told) (c.in_ok-item.ensures.reads.list files_told) in
    goes-then (read_item c.args.path.now) ref_of_item c.in_ok-item.item 0 0 a a b f g_ g_ c.store_item.result (goes-read a f g_ same c.args.path.now (Ok c.in_ok-item.item) (c.in_ok-item.ensures.exact files_told)) (c.store_item.ensures.goes kept_told g_)

pub returns-clause-fares : goal.returns-clause-fares
returns-clause-fares g c = fares-then _ _ _ _ _ _ _ _ _ _ _ _ _ _ _ (fares-files _ _ _ _ _ _ _ _ _ _ _ c.in_ok-item.ensures.reads.fares) (fares-keeper _ _ _ _ _ _ _ _ _ _ _ c.store_item.ensures.fares)
