use Rattle.std.proofs.Common.{◌∙◌, subst}
use Rattle.tool_text.specs.Including as including
use Rattle.tool_text.specs.Including.{first_there}
use Rattle.tool_text.specs.Seen.{target_seen}
use Rattle.include_scan.specs.Queue.{IsFound}
use Rattle.include_scan.proofs.visits.visit_target.Goals as goal

pub returns-clause-exact : goal.returns-clause-exact
returns-clause-exact g c tells index waits =
    c.visit.ensures.exact (g.T.Tree.files c.args.tree.now) index
    (first_there (g.T.Tree.files c.args.tree.now) (including.candidates c.args.folders.now c.args.path.now (target_seen c.args.target))) waits
    (subst (λ all. IsFound (g.T.Tree.files c.args.tree.now) c.args.queue.now.visited.keys (first_there (g.T.Tree.files c.args.tree.now) all) c.in_ok-found.found) (c.as_slice.ensures ∙ c.in_ok-candidates.ensures)
    (c.in_ok-found.ensures.exact tells waits.fine))
