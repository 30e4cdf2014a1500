use Rattle.blob_store.specs.Keeping.{kept}
use Rattle.force_pool.specs.Forcing.{as_evaluated}
use Rattle.force_pool.proofs.CallsConclude.{undisturbed-evaluates}
use Rattle.force_pool.proofs.pool.force_with_links.Goals as goal

pub returns-clause-exact : goal.returns-clause-exact
returns-clause-exact g c = λ told. (c.force_under.ensures.evaluates.does told).0

pub returns-clause-some : goal.returns-clause-some
returns-clause-some g c = λ told. (c.force_under.ensures.evaluates.does told).1

pub returns-clause-cause : goal.returns-clause-cause
returns-clause-cause g c = c.force_under.ensures.evaluates.cause

pub returns-clause-undisturbed : goal.returns-clause-undisturbed
returns-clause-undisturbed g c = λ told calm.
    undisturbed-evaluates g.L.Function.tells g.L.Function.outcome c.args.setup.budget c.args.setup.retries c.args.refs
    (kept g.K.Keeper.store g.K.Keeper.writes c.args.keeper.now) (kept g.K.Keeper.store g.K.Keeper.writes c.force_under.new.keeper)
    (g.K.Keeper.faults c.args.keeper.now) (g.K.Keeper.faults c.force_under.new.keeper) (as_evaluated c.force_under.result.end)
    (c.force_under.ensures.evaluates.does told).0 c.force_under.ensures.evaluates.cause calm

pub returns-clause-report : goal.returns-clause-report
returns-clause-report g c = c.force_under.ensures.pool.report

pub returns-clause-links : goal.returns-clause-links
returns-clause-links g c = c.force_under.ensures.pool.links

pub returns-clause-numbers : goal.returns-clause-numbers
returns-clause-numbers g c = c.force_under.ensures.pool.numbers

pub returns-clause-lost : goal.returns-clause-lost
returns-clause-lost g c = c.force_under.ensures.pool.lost

pub returns-clause-open_job : goal.returns-clause-open_job
returns-clause-open_job g c = c.force_under.ensures.pool.open_job

pub returns-clause-differs : goal.returns-clause-differs
returns-clause-differs g c = c.force_under.ensures.pool.differs
