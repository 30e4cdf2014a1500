use Rattle.std.proofs.Common.{◌≡◌, ◌++◌}
use Rattle.include_scan.proofs.scanning.listed.Given as goal

abbrev pub invariant-paths : goal.invariant-paths
invariant-paths l = l.paths ++ l.path-iterator ≡ l.initial.path-iterator
