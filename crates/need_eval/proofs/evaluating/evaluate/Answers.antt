use Rattle.blob_store.specs.Keeping.{kept}
use Rattle.std.proofs.Common.{◌≤◌, arith, ◌∙◌}
use Rattle.std.proofs.lemmas.Result.{err_from_is_err_and}
use Rattle.object_name.proofs.PublicLaws.{tries-none, tries-trans}
use Rattle.need_eval.proofs.ProgressConcludes.{progress-begins, concludes-reading, concludes-run}
use Rattle.need_eval.proofs.EvaluateGoesRound.{told-same, cause-of_reading, cause-of_keeper, cause-of_run, round-unbegun, round-ends, round-waits, round-supplied, round-stops}
use Rattle.need_eval.proofs.ClashesAreMet.{evaluates-in_full}
use Rattle.need_eval.specs.StepContracts.{failures_of}
use Rattle.need_eval.specs.Walking.{blocked_at}
use Rattle.need_eval.proofs.evaluating.evaluate.Goals as goal

pub returns-in_err-walker-clause-exact : goal.returns-in_err-walker-clause-exact
returns-in_err-walker-clause-exact g c = λ told.
    let p = err_from_is_err_and c.from_residual.result c.from_residual.ensures.1 in
    rw (p.1, p.2) ((round-unbegun g.R.Function.tells g.R.Function.outcome c.args.budget c.args.refs (kept g.K.Keeper.store g.K.Keeper.writes c.args.keeper.now)).0)

pub returns-in_err-walker-clause-some : goal.returns-in_err-walker-clause-some
returns-in_err-walker-clause-some g c = λ told.
    let p = err_from_is_err_and c.from_residual.result c.from_residual.ensures.1 in
    rw (p.1, p.2) ((round-unbegun g.R.Function.tells g.R.Function.outcome c.args.budget c.args.refs (kept g.K.Keeper.store g.K.Keeper.writes c.args.keeper.now)).1)

pub walk-init : goal.walk-init
walk-init g c = record {
  stands = c.in_ok-walker.ensures.walking;
  budgets = c.in_ok-walker.ensures.fresh.budgets;
  tries = c.in_ok-walker.ensures.retries;
  kept_later = omega arith;
  run_later = omega arith;
  tried = λ told. tries-none c.args.retries g.K.Keeper.calls g.K.Keeper.faults c.args.keeper.now;
  progress = λ told. progress-begins g.R.Function.tells g.R.Function.outcome c.args.budget c.args.refs (kept g.K.Keeper.store g.K.Keeper.writes c.args.keeper.now) c.in_ok-walker.walker c.in_ok-walker.ensures.fresh;
}

pub advance-requires : goal.advance-requires
advance-requires g c = c.walk.invariant.stands

pub returns-in_err-values-clause-exact : goal.returns-in_err-values-clause-exact
returns-in_err-values-clause-exact g c = λ told.
    let p = err_from_is_err_and c.from_residual-in_err-values.result c.from_residual-in_err-values.ensures.1 in
    rw (p.1, p.2) ((concludes-reading g.R.Function.tells g.R.Function.outcome c.args.budget c.args.refs (kept g.K.Keeper.store g.K.Keeper.writes c.args.keeper.now) c.walk.walker (kept g.K.Keeper.store g.K.Keeper.writes c.walk.keeper) (c.walk.invariant.progress told) c.advance.new.self (kept g.K.Keeper.store g.K.Keeper.writes c.advance.new.keeper) c.in_err-values.field-0.0 (told-same (kept g.K.Keeper.store g.K.Keeper.writes c.walk.keeper) (kept g.K.Keeper.store g.K.Keeper.writes c.advance.new.keeper) (c.advance.ensures.only_reads.same told) (c.advance.ensures.only_reads.list told)) (c.in_err-values.ensures.walks told)).0)

pub returns-in_err-values-clause-some : goal.returns-in_err-values-clause-some
returns-in_err-values-clause-some g c = λ told.
    let p = err_from_is_err_and c.from_residual-in_err-values.result c.from_residual-in_err-values.ensures.1 in
    rw (p.1, p.2) ((concludes-reading g.R.Function.tells g.R.Function.outcome c.args.budget c.args.refs (kept g.K.Keeper.store g.K.Keeper.writes c.args.keeper.now) c.walk.walker (kept g.K.Keeper.store g.K.Keeper.writes c.walk.keeper) (c.walk.invariant.progress told) c.advance.new.self (kept g.K.Keeper.store g.K.Keeper.writes c.advance.new.keeper) c.in_err-values.field-0.0 (told-same (kept g.K.Keeper.store g.K.Keeper.writes c.walk.keeper) (kept g.K.Keeper.store g.K.Keeper.writes c.advance.new.keeper) (c.advance.ensures.only_reads.same told) (c.advance.ensures.only_reads.list told)) (c.in_err-values.ensures.walks told)).1)

pub returns-in_err-values-clause-kept_later : goal.returns-in_err-values-clause-kept_later
returns-in_err-values-clause-kept_later g c = omega (arith, c.walk.invariant.kept_later, c.advance.ensures.only_reads.later)

pub returns-in_err-values-clause-run_later : goal.returns-in_err-values-clause-run_later
returns-in_err-values-clause-run_later g c = c.walk.invariant.run_later

pub returns-in_err-values-clause-cause : goal.returns-in_err-values-clause-cause
returns-in_err-values-clause-cause g c =
    let p = err_from_is_err_and c.from_residual-in_err-values.result c.from_residual-in_err-values.ensures.1 in
    rw (p.1, p.2) (cause-of_keeper c.args.retries (g.K.Keeper.faults c.args.keeper.now) (g.K.Keeper.faults c.walk.keeper) (g.K.Keeper.faults c.advance.new.keeper) (g.R.Runner.faults c.args.runner.now) (g.R.Runner.faults c.walk.runner) c.in_err-values.field-0.0
    c.walk.invariant.kept_later
    (cause-of_reading c.args.retries (g.K.Keeper.faults c.walk.keeper) (g.K.Keeper.faults c.advance.new.keeper) c.in_err-values.field-0.0 (rw c.walk.invariant.tries at c.in_err-values.ensures.only_reads.cause)))

pub returns-in-Ended-clause-exact : goal.returns-in-Ended-clause-exact
returns-in-Ended-clause-exact g c = λ told.
    (round-ends g.R.Function.tells g.R.Function.outcome c.args.budget c.args.refs (kept g.K.Keeper.store g.K.Keeper.writes c.args.keeper.now) c.walk.walker c.advance.new.self (kept g.K.Keeper.store g.K.Keeper.writes c.walk.keeper) (kept g.K.Keeper.store g.K.Keeper.writes c.advance.new.keeper) (c.walk.invariant.progress told) c.in_ok-values.field-0 c.in-Ended.values c.in-Ended.is (told-same (kept g.K.Keeper.store g.K.Keeper.writes c.walk.keeper) (kept g.K.Keeper.store g.K.Keeper.writes c.advance.new.keeper) (c.advance.ensures.only_reads.same told) (c.advance.ensures.only_reads.list told)) (c.in_ok-values.ensures.walks told) c.in_ok-values.ensures.steps).0

pub returns-in-Ended-clause-some : goal.returns-in-Ended-clause-some
returns-in-Ended-clause-some g c = λ told.
    (round-ends g.R.Function.tells g.R.Function.outcome c.args.budget c.args.refs (kept g.K.Keeper.store g.K.Keeper.writes c.args.keeper.now) c.walk.walker c.advance.new.self (kept g.K.Keeper.store g.K.Keeper.writes c.walk.keeper) (kept g.K.Keeper.store g.K.Keeper.writes c.advance.new.keeper) (c.walk.invariant.progress told) c.in_ok-values.field-0 c.in-Ended.values c.in-Ended.is (told-same (kept g.K.Keeper.store g.K.Keeper.writes c.walk.keeper) (kept g.K.Keeper.store g.K.Keeper.writes c.advance.new.keeper) (c.advance.ensures.only_reads.same told) (c.advance.ensures.only_reads.list told)) (c.in_ok-values.ensures.walks told) c.in_ok-values.ensures.steps).1

pub returns-in-Ended-clause-kept_later : goal.returns-in-Ended-clause-kept_later
returns-in-Ended-clause-kept_later g c = omega (arith, c.walk.invariant.kept_later, c.advance.ensures.only_reads.later)

pub returns-in-Ended-clause-run_later : goal.returns-in-Ended-clause-run_later
returns-in-Ended-clause-run_later g c = c.walk.invariant.run_later

pub returns-in_err-outcome-clause-exact : goal.returns-in_err-outcome-clause-exact
returns-in_err-outcome-clause-exact g c = λ told.
    let p = err_from_is_err_and c.from_residual-in_err-outcome.result c.from_residual-in_err-outcome.ensures.1 in
    let waits = round-waits g.R.Function.tells g.R.Function.outcome c.args.budget c.args.refs (kept g.K.Keeper.store g.K.Keeper.writes c.args.keeper.now) c.walk.walker c.advance.new.self (kept g.K.Keeper.store g.K.Keeper.writes c.walk.keeper) (kept g.K.Keeper.store g.K.Keeper.writes c.advance.new.keeper) (c.walk.invariant.progress told) c.in_ok-values.field-0 c.in-Blocked.is (told-same (kept g.K.Keeper.store g.K.Keeper.writes c.walk.keeper) (kept g.K.Keeper.store g.K.Keeper.writes c.advance.new.keeper) (c.advance.ensures.only_reads.same told) (c.advance.ensures.only_reads.list told)) (c.in_ok-values.ensures.walks told) c.advance.ensures.setup.budget in
    rw (p.1, p.2) ((concludes-run g.R.Function.tells g.R.Function.outcome c.args.budget c.args.refs (kept g.K.Keeper.store g.K.Keeper.writes c.args.keeper.now) c.advance.new.self (kept g.K.Keeper.store g.K.Keeper.writes c.advance.new.keeper) waits.0 (g.R.Runner.faults c.walk.runner) (g.R.Runner.faults c.run_blocked.new.runner) c.in_err-outcome.field-0.0 c.in_err-outcome.ensures.cause).0)

pub returns-in_err-outcome-clause-some : goal.returns-in_err-outcome-clause-some
returns-in_err-outcome-clause-some g c = λ told.
    let p = err_from_is_err_and c.from_residual-in_err-outcome.result c.from_residual-in_err-outcome.ensures.1 in
    let waits = round-waits g.R.Function.tells g.R.Function.outcome c.args.budget c.args.refs (kept g.K.Keeper.store g.K.Keeper.writes c.args.keeper.now) c.walk.walker c.advance.new.self (kept g.K.Keeper.store g.K.Keeper.writes c.walk.keeper) (kept g.K.Keeper.store g.K.Keeper.writes c.advance.new.keeper) (c.walk.invariant.progress told) c.in_ok-values.field-0 c.in-Blocked.is (told-same (kept g.K.Keeper.store g.K.Keeper.writes c.walk.keeper) (kept g.K.Keeper.store g.K.Keeper.writes c.advance.new.keeper) (c.advance.ensures.only_reads.same told) (c.advance.ensures.only_reads.list told)) (c.in_ok-values.ensures.walks told) c.advance.ensures.setup.budget in
    rw (p.1, p.2) ((concludes-run g.R.Function.tells g.R.Function.outcome c.args.budget c.args.refs (kept g.K.Keeper.store g.K.Keeper.writes c.args.keeper.now) c.advance.new.self (kept g.K.Keeper.store g.K.Keeper.writes c.advance.new.keeper) waits.0 (g.R.Runner.faults c.walk.runner) (g.R.Runner.faults c.run_blocked.new.runner) c.in_err-outcome.field-0.0 c.in_err-outcome.ensures.cause).1)

pub returns-in_err-outcome-clause-kept_later : goal.returns-in_err-outcome-clause-kept_later
returns-in_err-outcome-clause-kept_later g c = omega (arith, c.walk.invariant.kept_later, c.advance.ensures.only_reads.later)

pub returns-in_err-outcome-clause-run_later : goal.returns-in_err-outcome-clause-run_later
returns-in_err-outcome-clause-run_later g c = omega (arith, c.walk.invariant.run_later, c.run_blocked.ensures.later)

pub returns-in_err-outcome-clause-cause : goal.returns-in_err-outcome-clause-cause
returns-in_err-outcome-clause-cause g c =
    let p = err_from_is_err_and c.from_residual-in_err-outcome.result c.from_residual-in_err-outcome.ensures.1 in
    rw (p.1, p.2) (cause-of_run c.args.retries (g.K.Keeper.faults c.args.keeper.now) (g.K.Keeper.faults c.advance.new.keeper) (g.R.Runner.faults c.args.runner.now) (g.R.Runner.faults c.walk.runner) (g.R.Runner.faults c.run_blocked.new.runner) c.in_err-outcome.field-0.0
    c.walk.invariant.run_later c.in_err-outcome.ensures.cause)

pub walk-smaller : goal.walk-smaller
walk-smaller g c = omega (arith, c.in_ok-supply.ensures.work, c.in_ok-values.ensures.work)

pub walk-preserved : goal.walk-preserved
walk-preserved g c = record {
  stands = c.in_ok-supply.ensures.walking;
  budgets = c.supply.ensures.setup.budget ∙ c.advance.ensures.setup.budget ∙ c.walk.invariant.budgets;
  tries = c.supply.ensures.setup.retries ∙ c.advance.ensures.setup.retries ∙ c.walk.invariant.tries;
  kept_later = omega (arith, c.walk.invariant.kept_later, c.advance.ensures.only_reads.later, c.supply.ensures.cause.later);
  run_later = omega (arith, c.walk.invariant.run_later, c.run_blocked.ensures.later);
  tried = λ told.
      let supplied = rw (c.advance.ensures.setup.retries ∙ c.walk.invariant.tries) at (c.in_ok-supply.ensures.tries told) in
      tries-trans c.args.retries g.K.Keeper.calls g.K.Keeper.faults c.args.keeper.now c.advance.new.keeper c.supply.new.keeper 0 (tries-trans c.args.retries g.K.Keeper.calls g.K.Keeper.faults c.args.keeper.now c.walk.keeper c.advance.new.keeper 0 (c.walk.invariant.tried told) (rw c.walk.invariant.tries at (c.in_ok-values.ensures.only_reads.tries told))) supplied;
  progress = λ told.
      let waits = round-waits g.R.Function.tells g.R.Function.outcome c.args.budget c.args.refs (kept g.K.Keeper.store g.K.Keeper.writes c.args.keeper.now) c.walk.walker c.advance.new.self (kept g.K.Keeper.store g.K.Keeper.writes c.walk.keeper) (kept g.K.Keeper.store g.K.Keeper.writes c.advance.new.keeper) (c.walk.invariant.progress told) c.in_ok-values.field-0 c.in-Blocked.is (told-same (kept g.K.Keeper.store g.K.Keeper.writes c.walk.keeper) (kept g.K.Keeper.store g.K.Keeper.writes c.advance.new.keeper) (c.advance.ensures.only_reads.same told) (c.advance.ensures.only_reads.list told)) (c.in_ok-values.ensures.walks told) c.advance.ensures.setup.budget in
      round-supplied g.R.Function.tells g.R.Function.outcome c.args.budget c.args.refs (kept g.K.Keeper.store g.K.Keeper.writes c.args.keeper.now) c.advance.new.self c.supply.new.self (kept g.K.Keeper.store g.K.Keeper.writes c.advance.new.keeper) (kept g.K.Keeper.store g.K.Keeper.writes c.supply.new.keeper) waits.0 c.in_ok-outcome.outcome (blocked_at c.advance.new.self) waits.1 c.in_ok-outcome.ensures.fits c.in_ok-outcome.ensures.told (c.in_ok-supply.ensures.supplies told) c.supply.ensures.setup.budget;
}

pub returns-in_err-supply-clause-exact : goal.returns-in_err-supply-clause-exact
returns-in_err-supply-clause-exact g c = λ told.
    let p = err_from_is_err_and c.from_residual-in_err-supply.result c.from_residual-in_err-supply.ensures.1 in
    let waits = round-waits g.R.Function.tells g.R.Function.outcome c.args.budget c.args.refs (kept g.K.Keeper.store g.K.Keeper.writes c.args.keeper.now) c.walk.walker c.advance.new.self (kept g.K.Keeper.store g.K.Keeper.writes c.walk.keeper) (kept g.K.Keeper.store g.K.Keeper.writes c.advance.new.keeper) (c.walk.invariant.progress told) c.in_ok-values.field-0 c.in-Blocked.is (told-same (kept g.K.Keeper.store g.K.Keeper.writes c.walk.keeper) (kept g.K.Keeper.store g.K.Keeper.writes c.advance.new.keeper) (c.advance.ensures.only_reads.same told) (c.advance.ensures.only_reads.list told)) (c.in_ok-values.ensures.walks told) c.advance.ensures.setup.budget in
    rw (p.1, p.2) ((round-stops g.R.Function.tells g.R.Function.outcome c.args.budget c.args.refs (kept g.K.Keeper.store g.K.Keeper.writes c.args.keeper.now) c.advance.new.self c.supply.new.self (kept g.K.Keeper.store g.K.Keeper.writes c.advance.new.keeper) (kept g.K.Keeper.store g.K.Keeper.writes c.supply.new.keeper) waits.0 c.in_ok-outcome.outcome (blocked_at c.advance.new.self) c.in_err-supply.field-0.0 waits.1 c.in_ok-outcome.ensures.fits c.in_ok-outcome.ensures.told (c.in_err-supply.ensures.supplies told)).0)

pub returns-in_err-supply-clause-some : goal.returns-in_err-supply-clause-some
returns-in_err-supply-clause-some g c = λ told.
    let p = err_from_is_err_and c.from_residual-in_err-supply.result c.from_residual-in_err-supply.ensures.1 in
    let waits = round-waits g.R.Function.tells g.R.Function.outcome c.args.budget c.args.refs (kept g.K.Keeper.store g.K.Keeper.writes c.args.keeper.now) c.walk.walker c.advance.new.self (kept g.K.Keeper.store g.K.Keeper.writes c.walk.keeper) (kept g.K.Keeper.store g.K.Keeper.writes c.advance.new.keeper) (c.walk.invariant.progress told) c.in_ok-values.field-0 c.in-Blocked.is (told-same (kept g.K.Keeper.store g.K.Keeper.writes c.walk.keeper) (kept g.K.Keeper.store g.K.Keeper.writes c.advance.new.keeper) (c.advance.ensures.only_reads.same told) (c.advance.ensures.only_reads.list told)) (c.in_ok-values.ensures.walks told) c.advance.ensures.setup.budget in
    rw (p.1, p.2) ((round-stops g.R.Function.tells g.R.Function.outcome c.args.budget c.args.refs (kept g.K.Keeper.store g.K.Keeper.writes c.args.keeper.now) c.advance.new.self c.supply.new.self (kept g.K.Keeper.store g.K.Keeper.writes c.advance.new.keeper) (kept g.K.Keeper.store g.K.Keeper.writes c.supply.new.keeper) waits.0 c.in_ok-outcome.outcome (blocked_at c.advance.new.self) c.in_err-supply.field-0.0 waits.1 c.in_ok-outcome.ensures.fits c.in_ok-outcome.ensures.told (c.in_err-supply.ensures.supplies told)).1)

pub returns-in_err-supply-clause-kept_later : goal.returns-in_err-supply-clause-kept_later
returns-in_err-supply-clause-kept_later g c = omega (arith, c.walk.invariant.kept_later, c.advance.ensures.only_reads.later, c.supply.ensures.cause.later)

pub returns-in_err-supply-clause-run_later : goal.returns-in_err-supply-clause-run_later
returns-in_err-supply-clause-run_later g c = omega (arith, c.walk.invariant.run_later, c.run_blocked.ensures.later)

pub returns-in_err-supply-clause-cause : goal.returns-in_err-supply-clause-cause
returns-in_err-supply-clause-cause g c =
    let p = err_from_is_err_and c.from_residual-in_err-supply.result c.from_residual-in_err-supply.ensures.1 in
    let earlier : g.K.Keeper.faults c.args.keeper.now ≤ g.K.Keeper.faults c.advance.new.keeper = omega (arith, c.walk.invariant.kept_later, c.advance.ensures.only_reads.later) in
    rw (p.1, p.2) (cause-of_keeper c.args.retries (g.K.Keeper.faults c.args.keeper.now) (g.K.Keeper.faults c.advance.new.keeper) (g.K.Keeper.faults c.supply.new.keeper) (g.R.Runner.faults c.args.runner.now) (g.R.Runner.faults c.run_blocked.new.runner) c.in_err-supply.field-0.0
    earlier (rw (c.advance.ensures.setup.retries ∙ c.walk.invariant.tries) at c.in_err-supply.ensures.cause.cause))

pub returns-in_err-values-clause-undisturbed : goal.returns-in_err-values-clause-undisturbed
returns-in_err-values-clause-undisturbed g c = λ told.
    evaluates-in_full g.R.Function.tells g.R.Function.outcome c.args.budget c.args.retries c.args.refs (kept g.K.Keeper.store g.K.Keeper.writes c.args.keeper.now) _ (g.K.Keeper.faults c.args.keeper.now) _ (g.R.Runner.faults c.args.runner.now) _ _
    (returns-in_err-values-clause-exact g c told) (returns-in_err-values-clause-cause g c)

pub returns-in_err-outcome-clause-undisturbed : goal.returns-in_err-outcome-clause-undisturbed
returns-in_err-outcome-clause-undisturbed g c = λ told.
    evaluates-in_full g.R.Function.tells g.R.Function.outcome c.args.budget c.args.retries c.args.refs (kept g.K.Keeper.store g.K.Keeper.writes c.args.keeper.now) _ (g.K.Keeper.faults c.args.keeper.now) _ (g.R.Runner.faults c.args.runner.now) _ _
    (returns-in_err-outcome-clause-exact g c told) (returns-in_err-outcome-clause-cause g c)

pub returns-in_err-supply-clause-undisturbed : goal.returns-in_err-supply-clause-undisturbed
returns-in_err-supply-clause-undisturbed g c = λ told.
    evaluates-in_full g.R.Function.tells g.R.Function.outcome c.args.budget c.args.retries c.args.refs (kept g.K.Keeper.store g.K.Keeper.writes c.args.keeper.now) _ (g.K.Keeper.faults c.args.keeper.now) _ (g.R.Runner.faults c.args.runner.now) _ _
    (returns-in_err-supply-clause-exact g c told) (returns-in_err-supply-clause-cause g c)

pub returns-in-Ended-clause-undisturbed : goal.returns-in-Ended-clause-undisturbed
returns-in-Ended-clause-undisturbed g c = λ told calm run jobs own. returns-in-Ended-clause-exact g c told jobs

pub returns-in_err-walker-clause-undisturbed : goal.returns-in_err-walker-clause-undisturbed
returns-in_err-walker-clause-undisturbed g c = λ told calm run jobs own.
    let p = err_from_is_err_and c.from_residual.result c.from_residual.ensures.1 in
    rw (p.1, p.2) ((round-unbegun g.R.Function.tells g.R.Function.outcome c.args.budget c.args.refs (kept g.K.Keeper.store g.K.Keeper.writes c.args.keeper.now)).0 jobs)

pub returns-in_err-supply-clause-tries : goal.returns-in_err-supply-clause-tries
returns-in_err-supply-clause-tries g c = λ told.
    let p = err_from_is_err_and c.from_residual-in_err-supply.result c.from_residual-in_err-supply.ensures.1 in
    let advanced = tries-trans c.args.retries g.K.Keeper.calls g.K.Keeper.faults c.args.keeper.now c.walk.keeper c.advance.new.keeper 0 (c.walk.invariant.tried told) (rw c.walk.invariant.tries at (c.in_ok-values.ensures.only_reads.tries told)) in
    let supplied = rw (c.advance.ensures.setup.retries ∙ c.walk.invariant.tries) at (c.in_err-supply.ensures.tries told) in
    rw (p.1, p.2) (tries-trans c.args.retries g.K.Keeper.calls g.K.Keeper.faults c.args.keeper.now c.advance.new.keeper c.supply.new.keeper (failures_of c.in_err-supply.field-0.0) advanced supplied)
