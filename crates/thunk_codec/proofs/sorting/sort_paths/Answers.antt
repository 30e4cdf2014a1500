use Rattle.std.proofs.Common.{ap, ◌∙◌}
use Rattle.thunk_codec.specs.Sorted.{sorted_paths}
use Rattle.thunk_codec.proofs.SortedByKey.{stable_sort_is}
use Rattle.thunk_codec.proofs.sorting.sort_paths.Goals as goal

pub returns : goal.returns
returns c =
    stable_sort_is (λ path. path) c.sorted.inside.0.items c.sort.new.self.items c.in_ok-sort.ensures.sorted c.in_ok-sort.ensures.stable
    ∙ ap sorted_paths c.sorted.view_is
