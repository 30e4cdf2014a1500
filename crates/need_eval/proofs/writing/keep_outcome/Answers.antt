use Rattle.blob_store.specs.Keeping.{kept}
use Rattle.std.proofs.lemmas.Result.{err_from_is_err_and}
use Rattle.need_eval.proofs.OutputsAreWritten.{finished-stops, finished-puts, finished-may}
use Rattle.need_eval.proofs.writing.keep_outcome.Goals as goal

pub returns-in_err-outputs-clause-puts : goal.returns-in_err-outputs-clause-puts
returns-in_err-outputs-clause-puts g c = λ told t named.
    let p = err_from_is_err_and c.from_residual.result c.from_residual.ensures.1 in
    rw (p.1, p.2) (finished-stops c.args.name.now c.args.resolved.now t c.args.outcome.now named (kept g.K.Keeper.store g.K.Keeper.writes c.args.keeper.now) (kept g.K.Keeper.store g.K.Keeper.writes c.keep_outputs.new.keeper) c.in_err-outputs.field-0.0 (c.in_err-outputs.ensures.puts told))

pub returns-in-Ok-clause-puts : goal.returns-in-Ok-clause-puts
returns-in-Ok-clause-puts g c = λ told t named.
    finished-puts c.args.name.now c.args.resolved.now t c.args.outcome.now named (kept g.K.Keeper.store g.K.Keeper.writes c.args.keeper.now) (kept g.K.Keeper.store g.K.Keeper.writes c.keep_outputs.new.keeper) c.in_ok-outputs.outputs (c.in_ok-outputs.ensures.puts told)
    (kept g.K.Keeper.store g.K.Keeper.writes c.keep_note.new.keeper) (rw c.as_slice.ensures at (c.in-Ok.ensures.made told)) (rw c.as_slice.ensures at (c.in-Ok.ensures.listed told))

pub returns-in-Err-Failed-clause-puts : goal.returns-in-Err-Failed-clause-puts
returns-in-Err-Failed-clause-puts g c = λ told t named.
    finished-may c.args.name.now c.args.resolved.now t c.args.outcome.now named (kept g.K.Keeper.store g.K.Keeper.writes c.args.keeper.now) (kept g.K.Keeper.store g.K.Keeper.writes c.keep_outputs.new.keeper) c.in_ok-outputs.outputs (c.in_ok-outputs.ensures.puts told)
    (kept g.K.Keeper.store g.K.Keeper.writes c.keep_note.new.keeper) (rw c.as_slice.ensures at (c.in-Err-Failed.ensures.kept told)) (c.in-Err-Failed.ensures.unlisted told)

pub returns-clause-puts : goal.returns-clause-puts
returns-clause-puts g c = λ told t named.
    finished-may c.args.name.now c.args.resolved.now t c.args.outcome.now named (kept g.K.Keeper.store g.K.Keeper.writes c.args.keeper.now) (kept g.K.Keeper.store g.K.Keeper.writes c.keep_outputs.new.keeper) c.in_ok-outputs.outputs (c.in_ok-outputs.ensures.puts told)
    (kept g.K.Keeper.store g.K.Keeper.writes c.keep_note.new.keeper) (rw c.as_slice.ensures at (c.in-Err-Memory.ensures.kept told)) (c.in-Err-Memory.ensures.unlisted told)
