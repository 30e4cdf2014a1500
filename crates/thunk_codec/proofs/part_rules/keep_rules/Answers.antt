use Rattle.std.proofs.Common.{sym, ◌∙◌}
use Rattle.thunk_codec.specs.Thunk.{is_strictly_increasing}
use Rattle.thunk_codec.proofs.PartsFit.{rule_fails, orders_kept, last_rule}
use Rattle.thunk_codec.proofs.part_rules.keep_rules.Goals as goal

pub returns-then-not-paths_rise : goal.returns-then-not-paths_rise
returns-then-not-paths_rise c =
    let rises = orders_kept c.args.args.now c.args.envs.now c.args.inputs.now c.args.outputs.now in
    rule_fails c.args.args.now c.args.envs.now c.args.inputs.now c.args.outputs.now (is_strictly_increasing c.args.inputs.now) (λ kept. (rises kept).1.0)
    (sym c.paths_rise.ensures ∙ c.if-not-paths_rise.true)

pub returns : goal.returns
returns c =
    c.paths_are_distinct.ensures
    ∙ last_rule c.args.args.now c.args.envs.now c.args.inputs.now c.args.outputs.now
    (sym c.keep_numbers.ensures ∙ c.if-not-keep_numbers.false) (sym c.keep_bytes.ensures ∙ c.if-not-keep_bytes.false)
    (sym c.are_sorted.ensures ∙ c.if-not-are_sorted.false) (sym c.paths_rise.ensures ∙ c.if-not-paths_rise.false) c.look_at_paths.ensures c.look_at_paths-2.ensures
