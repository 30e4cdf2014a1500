use Rattle.std.proofs.Common.{sym, ◌∙◌}
use Rattle.tool_bin.proofs.SearchByPasses.{failed_pass, last_pass, next_pass}
use Rattle.tool_bin.proofs.ld_tool.search.Goals as goal

pub returns-in-Err : goal.returns-in-Err
returns-in-Err c =
    sym (failed_pass c.passes.passes c.passes.program c.args.objects.now c.in-Err.fault c.passes-test.true (sym c.in_ok-more.ensures ∙ c.in-Err.is)) ∙ c.passes.invariant

pub returns-then-len-count : goal.returns-then-len-count
returns-then-len-count c =
    sym (last_pass c.passes.passes c.passes.program c.in-Ok.more c.args.objects.now c.passes-test.true (sym c.in_ok-more.ensures ∙ c.in-Ok.is)
    (sym c.len.ensures ∙ (c.if-len-count.true ∙ c.len-count.ensures))) ∙ c.passes.invariant

pub passes-preserved : goal.passes-preserved
passes-preserved c =
    next_pass c.passes.passes c.passes.program c.in-Ok.more c.args.objects.now c.passes-test.true (sym c.in_ok-more.ensures ∙ c.in-Ok.is)
    (λ same. c.if-len-count.false (c.len.ensures ∙ (same ∙ sym c.len-count.ensures))) ∙ c.passes.invariant
