use Rattle.std.proofs.Common.{rules, ap, ◌∙◌}
use Rattle.std.proofs.lemmas.List.Sorted.{answers_always}
use Rattle.thunk_codec.specs.Sorted.{sorted_envs}
use Rattle.thunk_codec.proofs.SortedByKey.{is_before, order, stable_sort_is}
use Rattle.thunk_codec.proofs.sorting.sort_envs.Goals as goal

pub returns : goal.returns
returns c =
    stable_sort_is (λ env. env.0) c.sorted.inside.0.items c.sort_by.new.self.items
    (c.in_ok-sort_by.ensures.sorted (is_before (λ env. env.0)) (order (λ env. env.0)) (answers_always _ _ _ (λ f a r g h. search rules)))
    (c.in_ok-sort_by.ensures.stable (is_before (λ env. env.0)) (order (λ env. env.0)) (answers_always _ _ _ (λ f a r g h. search rules)))
    ∙ ap sorted_envs c.sorted.view_is
