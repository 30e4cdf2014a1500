use Rattle.std.proofs.Common.{◌∙◌}
use Rattle.std.specs.FinMap as map
use Rattle.file_tree.specs.Memory.{path_cmp}
use Rattle.file_tree.proofs.TreeAsMap.{inserted}
use Rattle.file_tree.proofs.mem_tree.keep.Goals as goal

pub returns-clause-put : goal.returns-clause-put
returns-clause-put c =
    inserted _ _ c.in_ok-copy.copy c.in_ok-content.content c.in_default.ensures.updates.0
    ∙ (λ i. map.insert (map.from_entries {R = path_cmp} c.args.held.now.entries) (c.in_ok-copy.ensures i) (c.in_ok-content.ensures i))
