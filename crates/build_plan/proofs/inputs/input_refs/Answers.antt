use Rattle.std.proofs.Common.{arith, ◌≡◌, ◌++◌, ◌∷◌, ◌+◌, ℕ, List, [], ap, drop, map, refl, sym, subst, ◌∙◌}
use Rattle.std.specs.List.{AllByRecursion}
use Rattle.blob_store.specs.Keeping.{kept}
use Rattle.file_tree.specs.Files.{filed_in}
use Rattle.thunk_codec.specs.Reference.{IsRef}
use Rattle.thunk_codec.specs.declared.reference.Ref.{Ref}
use Rattle.build_plan.specs.Applying.{sides}
use Rattle.build_plan.specs.Doing.{each}
use Rattle.build_plan.specs.Symbolic.{input_ref}
use Rattle.build_plan.specs.StepContracts.{Fares, Goes, Leads}
use Rattle.build_plan.proofs.CountsAddUp.{fares-none, fares-then, handed-fares}
use Rattle.build_plan.proofs.FilesAreFound.{last-drop}
use Rattle.build_plan.proofs.InputsInOrder.{all-more, behind, inputs-cut, inputs-end, inputs-more, inputs-start, inputs-stop, mapped-end, mapped-more, paths-more}
use Rattle.build_plan.proofs.WorkGoesOn.{handed}
use Rattle.build_plan.proofs.inputs.input_refs.Goals as goal

pub inputs-init : goal.inputs-init
inputs-init g c = record {
  left = λ kept_told files_told.
      subst (λ refs. Leads (each (input_ref c.args.items.now) c.args.inputs.now) (behind (input_ref c.args.items.now) refs c.args.inputs.now) 0 (sides (kept g.K.Keeper.store g.K.Keeper.writes) (filed_in g.T.Tree.files g.T.Tree.changes) c.args.keeper.now c.args.keeper.now c.args.tree.now c.args.tree.now)) (sym c.new-refs.ensures)
      (inputs-start c.args.items.now c.args.inputs.now (kept g.K.Keeper.store g.K.Keeper.writes c.args.keeper.now) (filed_in g.T.Tree.files g.T.Tree.changes c.args.tree.now));
  paths = rw c.new-refs.ensures refl;
  references = rw c.new-refs.ensures tt;
  fares = fares-none _ _ _ _ _ _ _ _ _ _ tt;
}

pub inputs-preserved : goal.inputs-preserved
inputs-preserved g c =
    let items = c.args.items.now in
    let inputs = c.args.inputs.now in
    let input = c.inputs-item.result in
    let reference = c.in_ok-reference.reference in
    let refs = c.inputs.refs ++ (input.0, reference) ∷ [] in
    let pushed : c.push.new.self ≡ refs = c.in_ok-push.ensures.ok ∙ λ i. c.inputs.refs ++ (c.in_ok-copy.ensures i, reference) ∷ [] in
    record {
      left = λ kept_told files_told.
          let items = c.args.items.now in
          let inputs = c.args.inputs.now in
          let a = kept g.K.Keeper.store g.K.Keeper.writes c.args.keeper.now in
          let b = kept g.K.Keeper.store g.K.Keeper.writes c.inputs.keeper in
          let c_ = kept g.K.Keeper.store g.K.Keeper.writes c.source_ref.new.keeper in
          let f = filed_in g.T.Tree.files g.T.Tree.changes c.args.tree.now in
          let g_ = filed_in g.T.Tree.files g.T.Tree.changes c.inputs.tree in
          let h = filed_in g.T.Tree.files g.T.Tree.changes c.source_ref.new.tree in
          let so_far = c.inputs.invariant.left kept_told files_told in
          subst (λ refs. Leads (each (input_ref items) inputs) (behind (input_ref items) refs (drop (c.inputs.path-index + 1) inputs)) 0 (sides (kept g.K.Keeper.store g.K.Keeper.writes) (filed_in g.T.Tree.files g.T.Tree.changes) c.args.keeper.now c.source_ref.new.keeper c.args.tree.now c.source_ref.new.tree)) (sym pushed)
          (inputs-more items inputs a b c_ f g_ h c.inputs.path-index c.inputs.refs so_far c.inputs-item.result c.inputs-test.true c.inputs-item.is reference (c.in_ok-reference.ensures.goes kept_told files_told));
      paths =
          mapped-more (λ input. input.0) inputs c.inputs.path-index input (map (λ input. input.0) c.inputs.refs) c.inputs-test.true c.inputs-item.is c.inputs.invariant.paths
          ∙ ap (λ (paths : List (List ℕ)). paths ++ map (λ input. input.0) (drop (c.inputs.path-index + 1) inputs)) (sym (ap (map (λ (input : List ℕ × Ref). input.0)) pushed ∙ paths-more c.inputs.refs input.0 reference));
      references = subst (λ refs. AllByRecursion IsRef (map (λ input. input.1) refs)) (sym pushed) (all-more c.inputs.refs input.0 reference c.inputs.invariant.references c.in_ok-reference.ensures.reference);
      fares = fares-then _ _ _ _ _ _ _ _ _ _ _ _ _ _ _ c.inputs.invariant.fares (fares-then _ _ _ _ _ _ _ _ _ _ _ _ _ _ _ c.in_ok-reference.ensures.fares (fares-none _ _ _ _ _ _ _ _ _ _ tt));
    }

pub returns-in_err-reference-clause-goes : goal.returns-in_err-reference-clause-goes
returns-in_err-reference-clause-goes g c kept_told files_told =
    let items = c.args.items.now in
    let inputs = c.args.inputs.now in
    let a = kept g.K.Keeper.store g.K.Keeper.writes c.args.keeper.now in
    let b = kept g.K.Keeper.store g.K.Keeper.writes c.inputs.keeper in
    let c_ = kept g.K.Keeper.store g.K.Keeper.writes c.source_ref.new.keeper in
    let f = filed_in g.T.Tree.files g.T.Tree.changes c.args.tree.now in
    let g_ = filed_in g.T.Tree.files g.T.Tree.changes c.inputs.tree in
    let h = filed_in g.T.Tree.files g.T.Tree.changes c.source_ref.new.tree in
    let so_far = c.inputs.invariant.left kept_told files_told in
    handed (Goes (each (input_ref items) inputs) 0 (sides (kept g.K.Keeper.store g.K.Keeper.writes) (filed_in g.T.Tree.files g.T.Tree.changes) c.args.keeper.now c.source_ref.new.keeper c.args.tree.now c.source_ref.new.tree)) _ _ c.from_residual.ensures
    (inputs-stop items inputs a b c_ f g_ h c.inputs.path-index c.inputs.refs so_far c.inputs-item.result c.inputs-test.true c.inputs-item.is c.in_err-reference.field-0.0 (c.in_err-reference.ensures.goes kept_told files_told))

pub returns-in_err-copy-clause-goes : goal.returns-in_err-copy-clause-goes
returns-in_err-copy-clause-goes g c kept_told files_told =
    let items = c.args.items.now in
    let inputs = c.args.inputs.now in
    let a = kept g.K.Keeper.store g.K.Keeper.writes c.args.keeper.now in
    let b = kept g.K.Keeper.store g.K.Keeper.writes c.inputs.keeper in
    let c_ = kept g.K.Keeper.store g.K.Keeper.writes c.source_ref.new.keeper in
    let f = filed_in g.T.Tree.files g.T.Tree.changes c.args.tree.now in
    let g_ = filed_in g.T.Tree.files g.T.Tree.changes c.inputs.tree in
    let h = filed_in g.T.Tree.files g.T.Tree.changes c.source_ref.new.tree in
    let so_far = c.inputs.invariant.left kept_told files_told in
    handed (Goes (each (input_ref items) inputs) 0 (sides (kept g.K.Keeper.store g.K.Keeper.writes) (filed_in g.T.Tree.files g.T.Tree.changes) c.args.keeper.now c.source_ref.new.keeper c.args.tree.now c.source_ref.new.tree)) _ _ c.from_residual-in_err-copy.ensures
    (inputs-cut items inputs a b c_ f g_ h c.inputs.path-index c.inputs.refs so_far c.inputs-item.result c.inputs-test.true c.inputs-item.is c.in_ok-reference.reference (c.in_ok-reference.ensures.goes kept_told files_told))

pub returns-in_err-push-clause-goes : goal.returns-in_err-push-clause-goes
returns-in_err-push-clause-goes g c kept_told files_told =
    let items = c.args.items.now in
    let inputs = c.args.inputs.now in
    let a = kept g.K.Keeper.store g.K.Keeper.writes c.args.keeper.now in
    let b = kept g.K.Keeper.store g.K.Keeper.writes c.inputs.keeper in
    let c_ = kept g.K.Keeper.store g.K.Keeper.writes c.source_ref.new.keeper in
    let f = filed_in g.T.Tree.files g.T.Tree.changes c.args.tree.now in
    let g_ = filed_in g.T.Tree.files g.T.Tree.changes c.inputs.tree in
    let h = filed_in g.T.Tree.files g.T.Tree.changes c.source_ref.new.tree in
    let so_far = c.inputs.invariant.left kept_told files_told in
    handed (Goes (each (input_ref items) inputs) 0 (sides (kept g.K.Keeper.store g.K.Keeper.writes) (filed_in g.T.Tree.files g.T.Tree.changes) c.args.keeper.now c.source_ref.new.keeper c.args.tree.now c.source_ref.new.tree)) _ _ c.from_residual-in_err-push.ensures
    (inputs-cut items inputs a b c_ f g_ h c.inputs.path-index c.inputs.refs so_far c.inputs-item.result c.inputs-test.true c.inputs-item.is c.in_ok-reference.reference (c.in_ok-reference.ensures.goes kept_told files_told))

pub returns-in_err-reference-clause-fares : goal.returns-in_err-reference-clause-fares
returns-in_err-reference-clause-fares g c = fares-then _ _ _ _ _ _ _ _ _ _ _ _ _ _ _ c.inputs.invariant.fares (handed-fares _ _ _ _ _ _ _ _ _ _ _ _ _ c.from_residual.ensures c.in_err-reference.ensures.fares)

pub returns-in_err-copy-clause-fares : goal.returns-in_err-copy-clause-fares
returns-in_err-copy-clause-fares g c =
    handed (Fares _ _ _ _ _ _ _ _ _ _ _) _ _ c.from_residual-in_err-copy.ensures
    (fares-then _ _ _ _ _ _ _ _ _ _ _ _ _ _ _ c.inputs.invariant.fares (fares-then _ _ _ _ _ _ _ _ _ _ _ _ _ _ _ c.in_ok-reference.ensures.fares (fares-none _ _ _ _ _ _ _ _ _ _ tt)))

pub returns-in_err-push-clause-fares : goal.returns-in_err-push-clause-fares
returns-in_err-push-clause-fares g c =
    handed (Fares _ _ _ _ _ _ _ _ _ _ _) _ _ c.from_residual-in_err-push.ensures
    (fares-then _ _ _ _ _ _ _ _ _ _ _ _ _ _ _ c.inputs.invariant.fares (fares-then _ _ _ _ _ _ _ _ _ _ _ _ _ _ _ c.in_ok-reference.ensures.fares (fares-none _ _ _ _ _ _ _ _ _ _ tt)))

pub returns-clause-goes : goal.returns-clause-goes
returns-clause-goes g c kept_told files_told =
    inputs-end c.args.items.now c.args.inputs.now (drop c.inputs.path-index c.args.inputs.now) _ c.inputs.refs (c.inputs.invariant.left kept_told files_told)
    (last-drop c.args.inputs.now c.inputs.path-index c.inputs-test.false (omega (arith, c.inputs.auto.path-index-end)))

pub returns-clause-paths : goal.returns-clause-paths
returns-clause-paths g c = sym (mapped-end (λ input. input.0) c.args.inputs.now c.inputs.path-index (map (λ input. input.0) c.inputs.refs) c.inputs-test.false (omega (arith, c.inputs.auto.path-index-end)) c.inputs.invariant.paths)

pub returns-clause-fares : goal.returns-clause-fares
returns-clause-fares g c = fares-then _ _ _ _ _ _ _ _ _ _ _ _ _ _ _ c.inputs.invariant.fares (fares-none _ _ _ _ _ _ _ _ _ _ tt)
