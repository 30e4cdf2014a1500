use Rattle.blob_store.specs.Keeping.{kept}
use Rattle.object_name.specs.Kind.{kind_of}
use Rattle.build_plan.specs.StepContracts.{Goes, between}
use Rattle.build_plan.specs.Symbolic.{value_ref}
use Rattle.build_plan.proofs.CountsAddUp.{handed-keeper, keeper-none, keeper-then}
use Rattle.build_plan.proofs.ObjectIsStored.{goes-no_value, goes-value, goes-wrong, value-is_ref}
use Rattle.build_plan.proofs.WorkGoesOn.{handed}
use Rattle.build_plan.proofs.stored.store_value.Goals as goal

pub returns-in-Thunk-clause-goes : goal.returns-in-Thunk-clause-goes
returns-in-Thunk-clause-goes g c told files = goes-wrong c.args.bytes.now (kind_of c.args.bytes.now) _ files c.in-Thunk.ensures

pub returns-in-Thunk-clause-fares : goal.returns-in-Thunk-clause-fares
returns-in-Thunk-clause-fares g c = keeper-none _ _ _ _ _ _ tt

pub returns-in_err-store_object-in-Value-clause-goes : goal.returns-in_err-store_object-in-Value-clause-goes
returns-in_err-store_object-in-Value-clause-goes g c told files =
    handed (Goes (value_ref c.args.bytes.now (kind_of c.args.bytes.now)) 0 (between (kept g.K.Keeper.store g.K.Keeper.writes c.args.keeper.now) (kept g.K.Keeper.store g.K.Keeper.writes c.store_object.new.keeper) files files)) _ _ c.from_residual.ensures
    (goes-no_value c.args.bytes.now (kind_of c.args.bytes.now) _ c.in-Value.ensures _ (c.in_err-store_object-in-Value.ensures.goes told files))

pub returns-in_err-store_object-in-Value-clause-fares : goal.returns-in_err-store_object-in-Value-clause-fares
returns-in_err-store_object-in-Value-clause-fares g c = handed-keeper _ _ _ _ _ _ _ _ c.from_residual.ensures c.in_err-store_object-in-Value.ensures.fares

pub returns-in_ok-store_object-in-Value-clause-goes : goal.returns-in_ok-store_object-in-Value-clause-goes
returns-in_ok-store_object-in-Value-clause-goes g c told files =
    goes-value c.args.bytes.now (kind_of c.args.bytes.now) _ c.in-Value.ensures _ (c.in_ok-store_object-in-Value.ensures.goes told files)

pub returns-in_ok-store_object-in-Value-clause-reference : goal.returns-in_ok-store_object-in-Value-clause-reference
returns-in_ok-store_object-in-Value-clause-reference g c = value-is_ref c.args.bytes.now _ c.requires c.in_ok-store_object-in-Value.ensures.named c.in-Value.ensures

pub returns-in_ok-store_object-in-Value-clause-fares : goal.returns-in_ok-store_object-in-Value-clause-fares
returns-in_ok-store_object-in-Value-clause-fares g c = keeper-then _ _ _ _ _ _ _ _ _ c.in_ok-store_object-in-Value.ensures.fares (keeper-none _ _ _ _ _ _ tt)
