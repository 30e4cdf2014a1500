use Rattle.std.proofs.Common.{List, ℕ, ap}
use Rattle.build_plan.specs.Way.{scanned_or}
use Rattle.build_plan.proofs.StepsInOrder.{scan-fares, scan-finds}
use Rattle.build_plan.proofs.stages.scanned.Goals as goal

pub returns-in-Ok-clause-exact : goal.returns-in-Ok-clause-exact
returns-in-Ok-clause-exact g c told = ap scanned_or (rw c.as_slice.ensures at (c.in-Ok.ensures.sorted told))

pub returns-in-Err-clause-exact : goal.returns-in-Err-clause-exact
returns-in-Err-clause-exact g c told = rw c.scan_fault.ensures (scan-finds _ c.in-Err.fault (rw c.as_slice.ensures at (c.in-Err.ensures.sorted told)))

pub returns-in-Ok-clause-reads : goal.returns-in-Ok-clause-reads
returns-in-Ok-clause-reads g c = record {
  same = λ told. c.in-Ok.ensures.same told;
  list = λ told. c.in-Ok.ensures.list told;
  fares = record { only = tt; later = c.in-Ok.ensures.later; cause = tt; tries = c.in-Ok.ensures.tries };
}

pub returns-in-Err-clause-reads : goal.returns-in-Err-clause-reads
returns-in-Err-clause-reads g c = rw c.scan_fault.ensures (record {
  same = λ told. c.in-Err.ensures.same told;
  list = λ told. c.in-Err.ensures.list told;
  fares = scan-fares (List (List ℕ)) (List (List ℕ)) _ _ _ _ _ _ c.in-Err.fault c.in-Err.ensures.later c.in-Err.ensures.cause c.in-Err.ensures.tries;
})
