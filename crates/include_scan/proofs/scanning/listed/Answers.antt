use Rattle.std.proofs.Common.{◌∙◌}
use Rattle.include_scan.proofs.ListedInOrder.{listed_more, all_listed}
use Rattle.include_scan.proofs.scanning.listed.Goals as goal

pub paths-preserved : goal.paths-preserved
paths-preserved c =
    listed_more c.paths.paths c.push.new.self c.paths.path-iterator c.next.new.self c.into_iter-path-iterator.result c.in-Some.path c.in_ok-push.ensures.ok c.in-Some.ensures.steps c.paths.invariant

pub returns-clause-paths : goal.returns-clause-paths
returns-clause-paths c = all_listed c.paths.paths c.paths.path-iterator c.into_iter-path-iterator.result c.in-None.ensures.steps.0 c.paths.invariant ∙ c.into_iter-path-iterator.ensures.into_iter_gives.0
