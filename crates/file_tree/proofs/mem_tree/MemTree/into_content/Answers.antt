use Rattle.std.proofs.Common.{◌≡◌, List, ℕ, sym, ◌∙◌, ap}
use Rattle.std.proofs.lemmas.Iterator.Consumers.{YieldsList-end, YieldsList-from_rest}
use Rattle.std.proofs.lemmas.List.{map-id}
use Rattle.file_tree.proofs.TreeAsMap.{once_in}
use Rattle.file_tree.proofs.mem_tree.MemTree.into_content.Goals as goal

pub returns-clause-once : goal.returns-clause-once
returns-clause-once c =
    let gives = c.into_iter-file-iterator.ensures.into_iter_gives in
    let all = YieldsList-end (YieldsList-from_rest {shows = λ (file : List ℕ × List ℕ). file} c.self.inside.held.entries gives.0) c.files.yielded _ c.files.yielded_by _ _ c.in-None.is c.next.ensures.steps in
    let same : c.files.files ≡ c.self.inside.held.entries = c.files.invariant ∙ sym (map-id c.files.yielded) ∙ all.0 in
    once_in c.args.self.held c.self.inside.held.entries c.files.files (ap (λ t. t.held) c.self.view_is) same gives.5
