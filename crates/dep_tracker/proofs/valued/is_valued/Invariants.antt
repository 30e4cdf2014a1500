use Rattle.dep_tracker.specs.Chain.{IsChain}
use Rattle.dep_tracker.proofs.valued.is_valued.Given as goal

abbrev pub invariant-links : goal.invariant-links
invariant-links l = IsChain l.graph.absorbed l.reference l.seen l.here
