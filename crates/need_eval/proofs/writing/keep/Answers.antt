use Rattle.blob_store.specs.Keeping.{kept}
use Rattle.need_eval.proofs.ObjectIsStored.{kept_puts, kept_stops, kept_cause}
use Rattle.need_eval.proofs.writing.keep.Goals as goal

pub returns-in-Ok-clause-puts : goal.returns-in-Ok-clause-puts
returns-in-Ok-clause-puts g c = λ told.
    kept_puts c.args.bytes.now (kept g.K.Keeper.store g.K.Keeper.writes c.args.keeper.now) (kept g.K.Keeper.store g.K.Keeper.writes c.store.new.keeper) c.in-Ok.name c.in-Ok.ensures.named (c.in-Ok.ensures.stores told) (c.in-Ok.ensures.listed told)

pub returns-in-Err-clause-puts : goal.returns-in-Err-clause-puts
returns-in-Err-clause-puts g c = λ told.
    rw c.store_fault.ensures (λ first s at. kept_stops c.args.bytes.now first s (kept g.K.Keeper.store g.K.Keeper.writes c.args.keeper.now) (kept g.K.Keeper.store g.K.Keeper.writes c.store.new.keeper) c.in-Err.fault at (c.in-Err.ensures.stores told) (c.in-Err.ensures.listed told) c.in-Err.ensures.clash)

pub returns-in-Err-clause-cause : goal.returns-in-Err-clause-cause
returns-in-Err-clause-cause g c =
    record {
      later = c.store.ensures.later;
      cause = rw c.store_fault.ensures (kept_cause c.args.bytes.now c.args.retries (g.K.Keeper.faults c.args.keeper.now) (g.K.Keeper.faults c.store.new.keeper) c.in-Err.fault c.in-Err.ensures.cause c.in-Err.ensures.clash);
    }
