use Rattle.include_scan.proofs.ListedInOrder.{sorted_of_listed, as_many, listed_in_order}
use Rattle.include_scan.proofs.scanning.in_order.Goals as goal

pub returns-clause-sorted : goal.returns-clause-sorted
returns-clause-sorted c = sorted_of_listed c.args.visited.keys c.in_ok-paths.paths c.in_ok-paths.ensures.paths c.sort_paths.result c.sort_paths.ensures

pub returns-clause-order : goal.returns-clause-order
returns-clause-order c = listed_in_order c.args.visited.keys c.in_ok-paths.paths c.in_ok-paths.ensures.paths c.listed.ensures.distinct c.sort_paths.result c.sort_paths.ensures

pub returns-clause-number : goal.returns-clause-number
returns-clause-number c = as_many c.args.visited.keys c.in_ok-paths.paths c.in_ok-paths.ensures.paths c.sort_paths.result c.sort_paths.ensures
