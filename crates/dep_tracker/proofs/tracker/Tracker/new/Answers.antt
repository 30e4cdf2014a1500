use Rattle.dep_tracker.proofs.CallsAreTracked.{begun-listed}
use Rattle.dep_tracker.proofs.tracker.Tracker.new.Goals as goal

pub track-requires : goal.track-requires
track-requires c = begun-listed _ c.args.roots _ _ c.new-graph.ensures c.new.ensures.empty c.new-2.ensures.empty
