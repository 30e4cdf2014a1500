use Rattle.std.proofs.Common.{◌++◌, ◌∷◌, [], ℕ, List, Some, map, Ok, ap, sym, subst, ◌∙◌}
use Rattle.std.specs.List.{AllByRecursion}
use Rattle.thunk_codec.specs.Reference.{IsRef}
use Rattle.thunk_codec.specs.declared.reference.Ref.{Ref}
use Rattle.blob_store.specs.Keeping.{kept}
use Rattle.build_plan.specs.StepContracts.{FaresKeeper, Goes, between, grown, read_refs}
use Rattle.build_plan.proofs.InputsInOrder.{all-more, paths-more, read-cut, read-more, read-stop}
use Rattle.build_plan.proofs.CountsAddUp.{handed-keeper, keeper-none, keeper-then}
use Rattle.build_plan.proofs.WorkGoesOn.{handed}
use Rattle.build_plan.proofs.inputs.add_read.Goals as goal

pub returns-in_err-reference-clause-goes : goal.returns-in_err-reference-clause-goes
returns-in_err-reference-clause-goes g c told files = rw c.in-Some.is
    (handed (λ r. Goes (read_refs c.args.refs.now c.args.place.now (Some c.in-Some.item)) 0 (between (kept g.K.Keeper.store g.K.Keeper.writes c.args.keeper.now) (kept g.K.Keeper.store g.K.Keeper.writes c.store_item.new.keeper) files files) (grown r c.args.refs.now)) c.from_residual.result c.in_err-reference.field-0.0 c.from_residual.ensures
    (read-stop [] c.args.refs.now c.args.place.now c.args.place.now (between (kept g.K.Keeper.store g.K.Keeper.writes c.args.keeper.now) (kept g.K.Keeper.store g.K.Keeper.writes c.store_item.new.keeper) files files) c.in-Some.item c.in_err-reference.field-0.0 (c.in_err-reference.ensures.goes told files)))

pub returns-in_err-copy-clause-goes : goal.returns-in_err-copy-clause-goes
returns-in_err-copy-clause-goes g c told files = rw c.in-Some.is
    (handed (λ r. Goes (read_refs c.args.refs.now c.args.place.now (Some c.in-Some.item)) 0 (between (kept g.K.Keeper.store g.K.Keeper.writes c.args.keeper.now) (kept g.K.Keeper.store g.K.Keeper.writes c.store_item.new.keeper) files files) (grown r c.args.refs.now)) c.from_residual-in_err-copy.result _ c.from_residual-in_err-copy.ensures
    (read-cut [] c.args.refs.now c.args.place.now c.args.place.now (between (kept g.K.Keeper.store g.K.Keeper.writes c.args.keeper.now) (kept g.K.Keeper.store g.K.Keeper.writes c.store_item.new.keeper) files files) c.in-Some.item c.in_ok-reference.reference (c.in_ok-reference.ensures.goes told files)))

pub returns-in_err-push-clause-goes : goal.returns-in_err-push-clause-goes
returns-in_err-push-clause-goes g c told files = rw c.in-Some.is
    (handed (λ r. Goes (read_refs c.args.refs.now c.args.place.now (Some c.in-Some.item)) 0 (between (kept g.K.Keeper.store g.K.Keeper.writes c.args.keeper.now) (kept g.K.Keeper.store g.K.Keeper.writes c.store_item.new.keeper) files files) (grown r c.push.new.self)) c.from_residual-in_err-push.result _ c.from_residual-in_err-push.ensures
    (read-cut [] c.args.refs.now c.args.place.now c.args.place.now (between (kept g.K.Keeper.store g.K.Keeper.writes c.args.keeper.now) (kept g.K.Keeper.store g.K.Keeper.writes c.store_item.new.keeper) files files) c.in-Some.item c.in_ok-reference.reference (c.in_ok-reference.ensures.goes told files)))

pub returns-clause-goes : goal.returns-clause-goes
returns-clause-goes g c told files = rw c.in-Some.is
    (let pushed = c.in_ok-push.ensures.ok ∙ λ i. c.args.refs.now ++ (c.in_ok-copy.ensures i, c.in_ok-reference.reference) ∷ [] in
    subst (λ refs. Goes (read_refs c.args.refs.now c.args.place.now (Some c.in-Some.item)) 0 (between (kept g.K.Keeper.store g.K.Keeper.writes c.args.keeper.now) (kept g.K.Keeper.store g.K.Keeper.writes c.store_item.new.keeper) files files) (Ok refs)) (sym pushed)
    (read-more [] c.args.refs.now c.args.place.now c.args.place.now (between (kept g.K.Keeper.store g.K.Keeper.writes c.args.keeper.now) (kept g.K.Keeper.store g.K.Keeper.writes c.store_item.new.keeper) files files) c.in-Some.item c.in_ok-reference.reference (c.in_ok-reference.ensures.goes told files)))

pub returns-clause-paths : goal.returns-clause-paths
returns-clause-paths g c = rw c.in-Some.is
    (ap (map (λ (input : List ℕ × Ref). input.0)) (c.in_ok-push.ensures.ok ∙ λ i. c.args.refs.now ++ (c.in_ok-copy.ensures i, c.in_ok-reference.reference) ∷ []) ∙ paths-more c.args.refs.now c.args.place.now c.in_ok-reference.reference)

pub returns-clause-references : goal.returns-clause-references
returns-clause-references g c =
    subst (λ refs. AllByRecursion IsRef (map (λ input. input.1) refs)) (sym (c.in_ok-push.ensures.ok ∙ λ i. c.args.refs.now ++ (c.in_ok-copy.ensures i, c.in_ok-reference.reference) ∷ []))
    (all-more c.args.refs.now c.args.place.now c.in_ok-reference.reference c.requires.references c.in_ok-reference.ensures.reference)

pub returns-in_err-reference-clause-fares : goal.returns-in_err-reference-clause-fares
returns-in_err-reference-clause-fares g c = handed-keeper _ _ _ _ _ _ _ _ c.from_residual.ensures c.in_err-reference.ensures.fares

pub returns-in_err-copy-clause-fares : goal.returns-in_err-copy-clause-fares
returns-in_err-copy-clause-fares g c = handed (FaresKeeper _ _ _ _ _ _) _ _ c.from_residual-in_err-copy.ensures (keeper-then _ _ _ _ _ _ _ _ _ c.in_ok-reference.ensures.fares (keeper-none _ _ _ _ _ _ tt))

pub returns-in_err-push-clause-fares : goal.returns-in_err-push-clause-fares
returns-in_err-push-clause-fares g c = handed (FaresKeeper _ _ _ _ _ _) _ _ c.from_residual-in_err-push.ensures (keeper-then _ _ _ _ _ _ _ _ _ c.in_ok-reference.ensures.fares (keeper-none _ _ _ _ _ _ tt))

pub returns-clause-fares : goal.returns-clause-fares
returns-clause-fares g c = keeper-then _ _ _ _ _ _ _ _ _ c.in_ok-reference.ensures.fares (keeper-none _ _ _ _ _ _ tt)
