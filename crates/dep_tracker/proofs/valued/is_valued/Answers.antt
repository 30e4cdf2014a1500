use Rattle.std.proofs.Common.{rules}
use Rattle.dep_tracker.proofs.NamesAreCompared.{ref-equal, ref-self}
use Rattle.dep_tracker.proofs.ChainsHaveValues.{chain_turns, chain_goes}
use Rattle.dep_tracker.proofs.valued.is_valued.Goals as goal

pub returns-then-has : goal.returns-then-has
returns-then-has c =
    chain_turns c.args.graph.now.absorbed c.args.reference.now c.links.here c.links.seen c.links.invariant (search rules)

pub links-preserved : goal.links-preserved
links-preserved c =
    chain_goes c.args.graph.now.absorbed c.args.reference.now c.links.here c.in-Yields.next c.links.seen c.push.new.self ref-equal ref-self c.links.invariant c.in-Yields.ensures c.in_ok-push-in-Yields.ensures
