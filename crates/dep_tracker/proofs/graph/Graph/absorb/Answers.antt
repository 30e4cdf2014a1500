use Rattle.std.proofs.Common.{sym, ◌∙◌}
use Rattle.dep_tracker.proofs.EntriesAreFound.{entry-last}
use Rattle.dep_tracker.proofs.graph.Graph.absorb.Goals as goal

pub returns : goal.returns
returns c =
    let new = rw (← c.self.view_is) at c.requires in
    let last = c.in_ok-insert.ensures.entries ∙ entry-last c.self.inside.absorbed c.args.name c.args.outputs new in
    rw (← c.self.view_is) (λ i. record { roots = c.self.inside.roots; added = c.self.inside.added.entries; absorbed = last i })
