use Rattle.std.proofs.Common.{ℕ, List, map, Ok, Err, [], ◌≡◌, refl, sym, subst}
use Rattle.blob_store.specs.Keeping.{kept}
use Rattle.thunk_codec.specs.Fitting.{AreFit}
use Rattle.build_plan.specs.Doing.{give}
use Rattle.build_plan.specs.declared.gathered.Gathered.TheVariants.{Output}
use Rattle.build_plan.specs.StepContracts.{FaresKeeper, Goes, between, parts_with, stage_output}
use Rattle.build_plan.specs.Symbolic.{one_output, thunk_stored}
use Rattle.build_plan.proofs.CountsAddUp.{handed-keeper, keeper-none, keeper-then}
use Rattle.build_plan.proofs.WritesGrow.{grows-bind, grows-give, grows-thunk_stored}
use Rattle.build_plan.proofs.WorkGoesOn.{cut-none, goes-bind, handed, leads-bind}
use Rattle.build_plan.proofs.stages.store_stage.Goals as goal

pub returns-in_err-outputs-clause-goes : goal.returns-in_err-outputs-clause-goes
returns-in_err-outputs-clause-goes g c told files =
    let parts = parts_with c.args.function c.args.args.now [] c.args.inputs one_output in
    handed (Goes (stage_output parts) 1 (between (kept g.K.Keeper.store g.K.Keeper.writes c.args.keeper.now) (kept g.K.Keeper.store g.K.Keeper.writes c.args.keeper.now) files files)) _ _ c.from_residual.ensures
    (cut-none (stage_output parts) _ _ files files refl refl (grows-bind (thunk_stored parts) (λ name. give (Output name 0)) (grows-thunk_stored parts) (λ name. grows-give (Output name 0))))

pub returns-in_err-outputs-clause-fares : goal.returns-in_err-outputs-clause-fares
returns-in_err-outputs-clause-fares g c = handed (FaresKeeper _ _ _ _ _ _) _ _ c.from_residual.ensures (keeper-none _ _ _ _ _ _ tt)

pub store_thunk-requires : goal.store_thunk-requires
store_thunk-requires g c = record {
  fits =
      subst (λ (outputs : List (List ℕ)). AreFit c.args.args.now c.new-envs.result (map (λ input. input.0) c.args.inputs) outputs) (sym c.in_ok-outputs.ensures)
      (subst (λ (envs : List (List ℕ × List ℕ)). AreFit c.args.args.now envs (map (λ input. input.0) c.args.inputs) one_output) (sym c.new-envs.ensures) c.requires.fits);
  function = c.requires.function;
  inputs = c.requires.inputs;
}

pub returns-in_err-name-clause-goes : goal.returns-in_err-name-clause-goes
returns-in_err-name-clause-goes g c told files =
    let name_parts = parts_with c.args.function c.args.args.now c.new-envs.result c.args.inputs c.in_ok-outputs.outputs in
    let parts = parts_with c.args.function c.args.args.now [] c.args.inputs one_output in
    let same : name_parts ≡ parts = λ i. parts_with c.args.function c.args.args.now (c.new-envs.ensures i) c.args.inputs (c.in_ok-outputs.ensures i) in
    let s = between (kept g.K.Keeper.store g.K.Keeper.writes c.args.keeper.now) (kept g.K.Keeper.store g.K.Keeper.writes c.store_thunk.new.keeper) files files in
    handed (Goes (stage_output parts) 1 s) _ c.in_err-name.field-0.0 c.from_residual-in_err-name.ensures
    (goes-bind (thunk_stored parts) (λ name. give (Output name 0)) 1 1 s c.in_err-name.field-0.0 (λ name. grows-give (Output name 0))
    (subst (λ parts. Goes (thunk_stored parts) 1 s (Err c.in_err-name.field-0.0)) same (c.in_err-name.ensures.goes told files)))

pub returns-in_err-name-clause-fares : goal.returns-in_err-name-clause-fares
returns-in_err-name-clause-fares g c = handed-keeper _ _ _ _ _ _ _ _ c.from_residual-in_err-name.ensures c.in_err-name.ensures.fares

pub returns-clause-goes : goal.returns-clause-goes
returns-clause-goes g c told files =
    let name_parts = parts_with c.args.function c.args.args.now c.new-envs.result c.args.inputs c.in_ok-outputs.outputs in
    let parts = parts_with c.args.function c.args.args.now [] c.args.inputs one_output in
    let same : name_parts ≡ parts = λ i. parts_with c.args.function c.args.args.now (c.new-envs.ensures i) c.args.inputs (c.in_ok-outputs.ensures i) in
    let s = between (kept g.K.Keeper.store g.K.Keeper.writes c.args.keeper.now) (kept g.K.Keeper.store g.K.Keeper.writes c.store_thunk.new.keeper) files files in
    leads-bind (thunk_stored parts) (λ name. give (Output name 0)) c.in_ok-name.name 1 s
    (subst (λ parts. Goes (thunk_stored parts) 1 s (Ok c.in_ok-name.name)) same (c.in_ok-name.ensures.goes told files))

pub returns-clause-fares : goal.returns-clause-fares
returns-clause-fares g c = keeper-then _ _ _ _ _ _ _ _ _ c.in_ok-name.ensures.fares (keeper-none _ _ _ _ _ _ tt)
