use Rattle.std.proofs.Common.{arith, ◌∙◌, refl}
use Rattle.std.proofs.lemmas.Result.{err_from_is_err_and}
use Rattle.force_pool.proofs.WalksConclude.{pause-halts, walk-unbegun, walk-begins, walk-stops_reading, walk-ends, walk-halts, walk-stops_writing, walk-goes_on}
use Rattle.force_pool.proofs.walk.walk_with.Goals as goal

pub walk-init : goal.walk-init
walk-init g c = (walk-begins g.K.Keeper.tells g.K.Keeper.store g.K.Keeper.writes g.K.Keeper.faults g.L.Function.tells g.L.Function.outcome c.args.budget c.args.retries c.args.refs c.args.keeper.now c.in_ok-walker.walker c.in_ok-walker.ensures.fresh c.in_ok-walker.ensures.retries c.in_ok-walker.ensures.walking, refl)

pub returns-in_err-walker-clause-evaluates : goal.returns-in_err-walker-clause-evaluates
returns-in_err-walker-clause-evaluates g c =
    let p = err_from_is_err_and c.from_residual.result c.from_residual.ensures.1 in
    rw (p.1, p.2) (walk-unbegun g.K.Keeper.tells g.K.Keeper.store g.K.Keeper.writes g.K.Keeper.faults g.L.Function.tells g.L.Function.outcome c.args.budget c.args.retries c.args.refs c.args.keeper.now)

pub returns-in_err-values-clause-evaluates : goal.returns-in_err-values-clause-evaluates
returns-in_err-values-clause-evaluates g c =
    let p = err_from_is_err_and c.from_residual-in_err-values.result c.from_residual-in_err-values.ensures.1 in
    rw (p.1, p.2) (walk-stops_reading g.K.Keeper.tells g.K.Keeper.store g.K.Keeper.writes g.K.Keeper.faults g.L.Function.tells g.L.Function.outcome c.args.budget c.args.retries c.args.refs c.args.keeper.now g.K.Keeper.calls c.walk.keeper c.walk.walker c.walk.invariant.0 c.advance.new.keeper c.advance.new.self c.in_err-values.field-0.0 c.in_err-values.ensures.only_reads c.in_err-values.ensures.walks)

pub returns-in-Ended-clause-evaluates : goal.returns-in-Ended-clause-evaluates
returns-in-Ended-clause-evaluates g c =
    walk-ends g.K.Keeper.tells g.K.Keeper.store g.K.Keeper.writes g.K.Keeper.faults g.L.Function.tells g.L.Function.outcome c.args.budget c.args.retries c.args.refs c.args.keeper.now g.K.Keeper.calls c.walk.keeper c.walk.walker c.walk.invariant.0 c.advance.new.keeper c.advance.new.self c.in_ok-values.field-0 c.in-Ended.values c.in-Ended.is c.in_ok-values.ensures.only_reads c.in_ok-values.ensures.walks c.in_ok-values.ensures.steps

pub returns-in_err-outcome-clause-evaluates : goal.returns-in_err-outcome-clause-evaluates
returns-in_err-outcome-clause-evaluates g c =
    let p = err_from_is_err_and c.from_residual-in_err-outcome.result c.from_residual-in_err-outcome.ensures.1 in
    rw (p.1, p.2, pause-halts c.in_err-outcome.field-0.0) (walk-halts g.K.Keeper.tells g.K.Keeper.store g.K.Keeper.writes g.K.Keeper.faults g.L.Function.tells g.L.Function.outcome c.args.budget c.args.retries c.args.refs c.args.keeper.now g.K.Keeper.calls c.walk.keeper c.walk.walker c.walk.invariant.0 c.advance.new.keeper c.advance.new.self c.in_ok-values.field-0 c.in-Blocked.is c.in_ok-values.ensures.only_reads c.in_ok-values.ensures.walks c.advance.ensures.setup c.awaited_by.new.keeper c.awaited_by.ensures.reads)

pub returns-in_err-supply-clause-evaluates : goal.returns-in_err-supply-clause-evaluates
returns-in_err-supply-clause-evaluates g c =
    let p = err_from_is_err_and c.from_residual-in_err-supply.result c.from_residual-in_err-supply.ensures.1 in
    rw (p.1, p.2) (walk-stops_writing g.K.Keeper.tells g.K.Keeper.store g.K.Keeper.writes g.K.Keeper.faults g.L.Function.tells g.L.Function.outcome c.args.budget c.args.retries c.args.refs c.args.keeper.now g.K.Keeper.calls c.walk.keeper c.walk.walker c.walk.invariant.0 c.advance.new.keeper c.advance.new.self c.in_ok-values.field-0 c.in-Blocked.is c.in_ok-values.ensures.only_reads c.in_ok-values.ensures.walks c.advance.ensures.setup c.awaited_by.new.keeper c.awaited_by.ensures.reads
    c.in_ok-outcome.outcome c.in_ok-outcome.ensures.fits c.in_ok-outcome.ensures.told c.supply.new.keeper c.supply.new.self c.in_err-supply.field-0.0 c.in_err-supply.ensures.supplies c.in_err-supply.ensures.cause)

pub walk-smaller : goal.walk-smaller
walk-smaller g c = omega (arith, c.in_ok-supply.ensures.work, c.in_ok-values.ensures.work)

pub walk-preserved : goal.walk-preserved
walk-preserved g c = (
  walk-goes_on g.K.Keeper.tells g.K.Keeper.store g.K.Keeper.writes g.K.Keeper.faults g.L.Function.tells g.L.Function.outcome c.args.budget c.args.retries c.args.refs c.args.keeper.now g.K.Keeper.calls c.walk.keeper c.walk.walker c.walk.invariant.0 c.advance.new.keeper c.advance.new.self c.in_ok-values.field-0 c.in-Blocked.is c.in_ok-values.ensures.only_reads c.in_ok-values.ensures.walks c.advance.ensures.setup c.awaited_by.new.keeper c.awaited_by.ensures.reads
      c.in_ok-outcome.outcome c.in_ok-outcome.ensures.fits c.in_ok-outcome.ensures.told c.supply.new.keeper c.supply.new.self c.in_ok-supply.ensures.supplies c.in_ok-supply.ensures.cause c.in_ok-supply.ensures.walking c.supply.ensures.setup,
  c.step_here.ensures ∙ c.awaited_by.ensures.slots ∙ c.walk.invariant.1,
)
