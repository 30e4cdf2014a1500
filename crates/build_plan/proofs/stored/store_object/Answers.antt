use Rattle.blob_store.specs.Keeping.{kept}
use Rattle.build_plan.proofs.CountsAddUp.{store-fault}
use Rattle.build_plan.proofs.ObjectIsStored.{goes-stored, goes-unstored}
use Rattle.build_plan.proofs.stored.store_object.Goals as goal

pub returns-in-Ok-clause-goes : goal.returns-in-Ok-clause-goes
returns-in-Ok-clause-goes g c told files =
    goes-stored c.args.bytes.now (kept g.K.Keeper.store g.K.Keeper.writes c.args.keeper.now) (kept g.K.Keeper.store g.K.Keeper.writes c.store.new.keeper) files c.in-Ok.name c.in-Ok.ensures.named (c.in-Ok.ensures.stores told) (c.in-Ok.ensures.listed told)

pub returns-in-Err-clause-goes : goal.returns-in-Err-clause-goes
returns-in-Err-clause-goes g c told files =
    rw c.store_fault.ensures (goes-unstored c.args.bytes.now (kept g.K.Keeper.store g.K.Keeper.writes c.args.keeper.now) (kept g.K.Keeper.store g.K.Keeper.writes c.store.new.keeper) files c.in-Err.fault (c.in-Err.ensures.stores told) (c.in-Err.ensures.listed told) c.in-Err.ensures.clash)

pub returns-in-Ok-clause-fares : goal.returns-in-Ok-clause-fares
returns-in-Ok-clause-fares g c = record { only = tt; clash = tt; later = c.in-Ok.ensures.later; cause = tt; tries = c.in-Ok.ensures.tries }

pub returns-in-Err-clause-fares : goal.returns-in-Err-clause-fares
returns-in-Err-clause-fares g c = rw c.store_fault.ensures (store-fault _ _ _ _ _ _ _ c.args.bytes.now c.in-Err.fault c.in-Err.ensures.later c.in-Err.ensures.cause c.in-Err.ensures.clash c.in-Err.ensures.tries)
