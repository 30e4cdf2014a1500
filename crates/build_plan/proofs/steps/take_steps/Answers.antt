use Rattle.std.proofs.Common.{arith, ◌+◌, [], List, Err, drop, refl, sym, subst, ◌∙◌}
use Rattle.std.specs.Prelude.{All}
use Rattle.blob_store.specs.Keeping.{kept}
use Rattle.file_tree.specs.Files.{filed_in}
use Rattle.build_plan.specs.Applying.{sides}
use Rattle.build_plan.specs.Symbolic.{symbolic}
use Rattle.build_plan.specs.Way.{gathered, taken}
use Rattle.build_plan.specs.StepContracts.{between, Fares, Goes, GoesSteps, IsItem, Leads, step_thunks}
use Rattle.build_plan.specs.declared.plan.Step.{Step}
use Rattle.build_plan.proofs.CountsAddUp.{fares-none, fares-then, handed-fares}
use Rattle.build_plan.proofs.FilesAreFound.{last-drop}
use Rattle.build_plan.proofs.StepsInOrder.{counted-more, fit-step, items-more, steps-cut, steps-more, steps-stop}
use Rattle.build_plan.proofs.WorkGoesOn.{goes-fault, handed, leads-none}
use Rattle.build_plan.proofs.steps.take_steps.Goals as goal

pub steps-init : goal.steps-init
steps-init g c = record {
  taken = λ kept_told files_told. record {
    number = 0;
    counted = refl;
    leads =
        subst (λ items. Leads (gathered symbolic c.args.steps.now []) (gathered symbolic c.args.steps.now items) 0 (sides (kept g.K.Keeper.store g.K.Keeper.writes) (filed_in g.T.Tree.files g.T.Tree.changes) c.args.keeper.now c.args.keeper.now c.args.tree.now c.args.tree.now)) (sym c.requires.none)
        (leads-none (gathered symbolic c.args.steps.now []) _ _ _ _ refl refl);
  };
  all = subst (λ items. All IsItem items) (sym c.requires.none) (λ k d low. absurd (omega (arith, low)));
  fares = fares-none _ _ _ _ _ _ _ _ _ _ tt;
}

pub steps-preserved : goal.steps-preserved
steps-preserved g c = record {
  taken = λ kept_told files_told.
      let so_far = c.steps.invariant.taken kept_told files_told in
      let a = kept g.K.Keeper.store g.K.Keeper.writes c.args.keeper.now in
      let b = kept g.K.Keeper.store g.K.Keeper.writes c.steps.keeper in
      let c_ = kept g.K.Keeper.store g.K.Keeper.writes c.take_step.new.keeper in
      let f = filed_in g.T.Tree.files g.T.Tree.changes c.args.tree.now in
      let g_ = filed_in g.T.Tree.files g.T.Tree.changes c.steps.tree in
      let h = filed_in g.T.Tree.files g.T.Tree.changes c.take_step.new.tree in
      record {
        number = so_far.number + step_thunks c.step-item.result;
        counted = c.counted-thunks.ensures ∙ counted-more c.steps.thunks so_far.number (step_thunks c.step-item.result) so_far.counted;
        leads =
            subst (λ items. Leads (gathered symbolic c.args.steps.now []) (gathered symbolic (drop (c.steps.step-index + 1) c.args.steps.now) items) (so_far.number + step_thunks c.step-item.result) (sides (kept g.K.Keeper.store g.K.Keeper.writes) (filed_in g.T.Tree.files g.T.Tree.changes) c.args.keeper.now c.take_step.new.keeper c.args.tree.now c.take_step.new.tree)) (sym c.in_ok-push.ensures.ok)
            (steps-more c.args.steps.now a b c_ f g_ h c.steps.step-index c.steps.items so_far.number so_far.leads c.step-item.result c.steps-test.true c.step-item.is (step_thunks c.step-item.result) c.in_ok-item.item (rw c.as_slice.ensures at (c.in_ok-item.ensures.goes kept_told files_told)));
      };
  all = items-more c.steps.items c.push.new.self c.in_ok-item.item c.in_ok-push.ensures.ok c.steps.invariant.all c.in_ok-item.ensures.item;
  fares = fares-then _ _ _ _ _ _ _ _ _ _ _ _ _ _ _ c.steps.invariant.fares (fares-then _ _ _ _ _ _ _ _ _ _ _ _ _ _ _ c.in_ok-item.ensures.fares (fares-none _ _ _ _ _ _ _ _ _ _ tt));
}

pub take_step-requires : goal.take_step-requires
take_step-requires g c = record {
  items = subst (λ items. All IsItem items) (sym c.as_slice.ensures) c.steps.invariant.all;
  fits = fit-step c.args.steps.now c.steps.step-index c.step-item.result c.requires.fits c.steps-test.true c.step-item.is;
}

pub returns-in_err-item-clause-goes : goal.returns-in_err-item-clause-goes
returns-in_err-item-clause-goes g c kept_told files_told =
    let so_far = c.steps.invariant.taken kept_told files_told in
    let a = kept g.K.Keeper.store g.K.Keeper.writes c.args.keeper.now in
    let b = kept g.K.Keeper.store g.K.Keeper.writes c.steps.keeper in
    let c_ = kept g.K.Keeper.store g.K.Keeper.writes c.take_step.new.keeper in
    let f = filed_in g.T.Tree.files g.T.Tree.changes c.args.tree.now in
    let g_ = filed_in g.T.Tree.files g.T.Tree.changes c.steps.tree in
    let h = filed_in g.T.Tree.files g.T.Tree.changes c.take_step.new.tree in
    handed (GoesSteps c.args.steps.now c.steps.items (sides (kept g.K.Keeper.store g.K.Keeper.writes) (filed_in g.T.Tree.files g.T.Tree.changes) c.args.keeper.now c.take_step.new.keeper c.args.tree.now c.take_step.new.tree)) _ c.in_err-item.field-0.0 c.from_residual.ensures
    (goes-fault _ (so_far.number + 0) 0 _ c.in_err-item.field-0.0 (steps-stop c.args.steps.now a b c_ f g_ h c.steps.step-index c.steps.items so_far.number so_far.leads c.step-item.result c.steps-test.true c.step-item.is (step_thunks c.step-item.result) c.in_err-item.field-0.0 (subst (λ items. Goes (taken symbolic items c.step-item.result) (step_thunks c.step-item.result) (between b c_ g_ h) (Err c.in_err-item.field-0.0)) c.as_slice.ensures (c.in_err-item.ensures.goes kept_told files_told))))

pub returns-in_err-item-clause-fares : goal.returns-in_err-item-clause-fares
returns-in_err-item-clause-fares g c = fares-then _ _ _ _ _ _ _ _ _ _ _ _ _ _ _ c.steps.invariant.fares (handed-fares _ _ _ _ _ _ _ _ _ _ _ _ _ c.from_residual.ensures c.in_err-item.ensures.fares)

pub returns-in_err-push-clause-goes : goal.returns-in_err-push-clause-goes
returns-in_err-push-clause-goes g c kept_told files_told =
    let so_far = c.steps.invariant.taken kept_told files_told in
    let a = kept g.K.Keeper.store g.K.Keeper.writes c.args.keeper.now in
    let b = kept g.K.Keeper.store g.K.Keeper.writes c.steps.keeper in
    let c_ = kept g.K.Keeper.store g.K.Keeper.writes c.take_step.new.keeper in
    let f = filed_in g.T.Tree.files g.T.Tree.changes c.args.tree.now in
    let g_ = filed_in g.T.Tree.files g.T.Tree.changes c.steps.tree in
    let h = filed_in g.T.Tree.files g.T.Tree.changes c.take_step.new.tree in
    handed (GoesSteps c.args.steps.now c.push.new.self (sides (kept g.K.Keeper.store g.K.Keeper.writes) (filed_in g.T.Tree.files g.T.Tree.changes) c.args.keeper.now c.take_step.new.keeper c.args.tree.now c.take_step.new.tree)) _ _ c.from_residual-in_err-push.ensures
    (steps-cut c.args.steps.now a b c_ f g_ h c.steps.step-index c.steps.items so_far.number so_far.leads c.step-item.result c.steps-test.true c.step-item.is (step_thunks c.step-item.result) c.in_ok-item.item (rw c.as_slice.ensures at (c.in_ok-item.ensures.goes kept_told files_told)))

pub returns-in_err-push-clause-fares : goal.returns-in_err-push-clause-fares
returns-in_err-push-clause-fares g c =
    handed (Fares _ _ _ _ _ _ _ _ _ _ _) _ _ c.from_residual-in_err-push.ensures
    (fares-then _ _ _ _ _ _ _ _ _ _ _ _ _ _ _ c.steps.invariant.fares (fares-then _ _ _ _ _ _ _ _ _ _ _ _ _ _ _ c.in_ok-item.ensures.fares (fares-none _ _ _ _ _ _ _ _ _ _ tt)))

pub returns-clause-goes : goal.returns-clause-goes
returns-clause-goes g c kept_told files_told =
    let so_far = c.steps.invariant.taken kept_told files_told in
    record {
      number = so_far.number;
      counted = so_far.counted;
      leads =
          subst (λ (left : List Step). Leads (gathered symbolic c.args.steps.now []) (gathered symbolic left c.steps.items) so_far.number (sides (kept g.K.Keeper.store g.K.Keeper.writes) (filed_in g.T.Tree.files g.T.Tree.changes) c.args.keeper.now c.steps.keeper c.args.tree.now c.steps.tree))
          (last-drop c.args.steps.now c.steps.step-index c.steps-test.false (omega (arith, c.steps.auto.step-index-end))) so_far.leads;
    }

pub returns-clause-items : goal.returns-clause-items
returns-clause-items g c = c.steps.invariant.all

pub returns-clause-fares : goal.returns-clause-fares
returns-clause-fares g c = fares-then _ _ _ _ _ _ _ _ _ _ _ _ _ _ _ c.steps.invariant.fares (fares-none _ _ _ _ _ _ _ _ _ _ tt)
