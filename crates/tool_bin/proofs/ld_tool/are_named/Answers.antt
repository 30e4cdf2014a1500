use Rattle.std.proofs.Common.{◌≡◌, Bool, IfOk, [], fold, subst, ◌∙◌}
use Rattle.std.specs.List.{list_all}
use Rattle.text_lines.specs.Among.{is_among}
use Rattle.tool_bin.specs.Names.{with_name}
use Rattle.tool_bin.proofs.NamesOfTexts.{named_by_names}
use Rattle.tool_bin.proofs.ld_tool.are_named.Goals as goal

pub returns : goal.returns
returns c =
    let P : Bool → Type 0 = λ all. IfOk c.are_named_by.result (λ named. named ≡ all) in
    subst P ((λ i. list_all (λ input. is_among (c.in_ok-names.ensures i) input.0) (c.as_slice-2.ensures i))
    ∙ (λ i. list_all (λ input. is_among (fold with_name [] (c.as_slice.ensures i)) input.0) c.args.job.now.inputs)
    ∙ named_by_names c.args.job.now.inputs c.args.job.now.args) c.are_named_by.ensures
