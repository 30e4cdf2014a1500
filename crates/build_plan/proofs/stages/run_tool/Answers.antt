use Rattle.std.proofs.Common.{◌++◌}
use Rattle.blob_store.specs.Keeping.{kept}
use Rattle.file_tree.specs.Files.{filed_in}
use Rattle.build_plan.specs.Applying.{sides}
use Rattle.build_plan.specs.StepContracts.{Goes, stage_of}
use Rattle.build_plan.specs.Symbolic.{thunk_made}
use Rattle.build_plan.specs.Way.{optional_input}
use Rattle.build_plan.proofs.CountsAddUp.{fares-keeper, fares-then, handed-fares, handed-keeper}
use Rattle.build_plan.proofs.InputsInOrder.{completed-fits}
use Rattle.build_plan.proofs.StepsInOrder.{stage-no_card, stage-no_input, stage-stored}
use Rattle.build_plan.proofs.WorkGoesOn.{handed}
use Rattle.build_plan.proofs.stages.run_tool.Goals as goal

pub returns-in_err-card-clause-goes : goal.returns-in_err-card-clause-goes
returns-in_err-card-clause-goes g c kept_told files_told target =
    let inputs = c.args.inputs.now ++ optional_input (g.T.Tree.files c.args.tree.now) c.args.optional.now in
    let s = sides (kept g.K.Keeper.store g.K.Keeper.writes) (filed_in g.T.Tree.files g.T.Tree.changes) c.args.keeper.now c.store_card.new.keeper c.args.tree.now c.args.tree.now in
    handed (Goes (thunk_made c.args.items.now (stage_of c.args.tool.now c.args.args.now inputs target)) 1 s) _ c.in_err-card.field-0.0 c.from_residual.ensures
    (stage-no_card c.args.items.now c.args.tool.now c.args.args.now inputs target s c.in_err-card.field-0.0 (c.in_err-card.ensures.goes kept_told (filed_in g.T.Tree.files g.T.Tree.changes c.args.tree.now)))

pub returns-in_err-card-clause-fares : goal.returns-in_err-card-clause-fares
returns-in_err-card-clause-fares g c = fares-keeper _ _ _ _ _ _ _ _ _ _ _ (handed-keeper _ _ _ _ _ _ _ _ c.from_residual.ensures c.in_err-card.ensures.fares)

pub returns-in_err-refs-clause-goes : goal.returns-in_err-refs-clause-goes
returns-in_err-refs-clause-goes g c kept_told files_told target =
    let inputs = c.args.inputs.now ++ optional_input (g.T.Tree.files c.args.tree.now) c.args.optional.now in
    let s = sides (kept g.K.Keeper.store g.K.Keeper.writes) (filed_in g.T.Tree.files g.T.Tree.changes) c.args.keeper.now c.completed_refs.new.keeper c.args.tree.now c.completed_refs.new.tree in
    let h = filed_in g.T.Tree.files g.T.Tree.changes c.completed_refs.new.tree in
    let k = kept g.K.Keeper.store g.K.Keeper.writes c.completed_refs.new.keeper in
    handed (Goes (thunk_made c.args.items.now (stage_of c.args.tool.now c.args.args.now inputs target)) 1 s) _ c.in_err-refs.field-0.0 c.from_residual-in_err-refs.ensures
    (stage-no_input c.args.items.now c.args.tool.now c.args.args.now inputs target (kept g.K.Keeper.store g.K.Keeper.writes c.args.keeper.now) (kept g.K.Keeper.store g.K.Keeper.writes c.store_card.new.keeper) k k (filed_in g.T.Tree.files g.T.Tree.changes c.args.tree.now) h h c.in_ok-card.card (c.in_ok-card.ensures.goes kept_told (filed_in g.T.Tree.files g.T.Tree.changes c.args.tree.now))
    c.in_err-refs.field-0.0 (c.in_err-refs.ensures.goes kept_told files_told))

pub returns-in_err-refs-clause-fares : goal.returns-in_err-refs-clause-fares
returns-in_err-refs-clause-fares g c = fares-then _ _ _ _ _ _ _ _ _ _ _ _ _ _ _ (fares-keeper _ _ _ _ _ _ _ _ _ _ _ c.in_ok-card.ensures.fares) (handed-fares _ _ _ _ _ _ _ _ _ _ _ _ _ c.from_residual-in_err-refs.ensures c.in_err-refs.ensures.fares)

pub store_stage-requires : goal.store_stage-requires
store_stage-requires g c = record {
  fits = completed-fits _ _ c.args.inputs.now c.args.optional.now _ _ c.in_ok-refs.ensures.paths c.requires.fits;
  function = c.in_ok-card.ensures.reference;
  inputs = c.in_ok-refs.ensures.references;
}

pub returns-clause-goes : goal.returns-clause-goes
returns-clause-goes g c kept_told files_told target =
    let inputs = c.args.inputs.now ++ optional_input (g.T.Tree.files c.args.tree.now) c.args.optional.now in
    let h = filed_in g.T.Tree.files g.T.Tree.changes c.completed_refs.new.tree in
    stage-stored c.args.items.now c.args.tool.now c.args.args.now inputs target (kept g.K.Keeper.store g.K.Keeper.writes c.args.keeper.now) (kept g.K.Keeper.store g.K.Keeper.writes c.store_card.new.keeper) (kept g.K.Keeper.store g.K.Keeper.writes c.completed_refs.new.keeper) (kept g.K.Keeper.store g.K.Keeper.writes c.store_stage.new.keeper) (filed_in g.T.Tree.files g.T.Tree.changes c.args.tree.now) h h
    c.in_ok-card.card (c.in_ok-card.ensures.goes kept_told (filed_in g.T.Tree.files g.T.Tree.changes c.args.tree.now)) c.in_ok-refs.refs c.store_stage.result (c.in_ok-refs.ensures.goes kept_told files_told) (c.store_stage.ensures.goes kept_told h)

pub returns-clause-fares : goal.returns-clause-fares
returns-clause-fares g c =
    fares-then _ _ _ _ _ _ _ _ _ _ _ _ _ _ _ (fares-keeper _ _ _ _ _ _ _ _ _ _ _ c.in_ok-card.ensures.fares)
    (fares-then _ _ _ _ _ _ _ _ _ _ _ _ _ _ _ c.in_ok-refs.ensures.fares (fares-keeper _ _ _ _ _ _ _ _ _ _ _ c.store_stage.ensures.fares))
