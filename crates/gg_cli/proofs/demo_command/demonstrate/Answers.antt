use Rattle.std.proofs.Common.{◌∙◌, sym}
use Rattle.gg_cli.specs.Answer.{demonstrated}
use Rattle.gg_cli.specs.StepContracts.{ShowsDemonstration}
use Rattle.gg_cli.proofs.DemoMakesTheAnswer.{demonstrated-is, program_shown, program_stops, same_stops}
use Rattle.gg_cli.proofs.InputMakesTheAnswer.{handed_top}
use Rattle.gg_cli.proofs.demo_command.demonstrate.Goals as goal

pub returns-in_err-keeper-clause-shows : goal.returns-in_err-keeper-clause-shows
returns-in_err-keeper-clause-shows c = handed_top _ _ c.from_residual.ensures (λ r. ShowsDemonstration (demonstrated c.args.count) r) tt

pub returns-in_err-tree-clause-shows : goal.returns-in_err-tree-clause-shows
returns-in_err-tree-clause-shows c = handed_top _ _ c.from_residual-in_err-tree.ensures (λ r. ShowsDemonstration (demonstrated c.args.count) r) tt

pub returns-in_err-script-clause-shows : goal.returns-in_err-script-clause-shows
returns-in_err-script-clause-shows c = handed_top _ _ c.from_residual-in_err-script.ensures (λ r. ShowsDemonstration (demonstrated c.args.count) r) tt

pub returns-in_err-thunks-clause-shows : goal.returns-in_err-thunks-clause-shows
returns-in_err-thunks-clause-shows c =
    let is = demonstrated-is c.args.count _ _ _ (c.as_slice.ensures ∙ c.in_ok-script.ensures) c.in_ok-keeper.ensures c.in_ok-tree.ensures in
    handed_top _ _ c.from_residual-in_err-thunks.ensures (λ r. ShowsDemonstration (demonstrated c.args.count) r)
    (same_stops _ _ is c.in_err-thunks.field-0.0 c.in_err-thunks.ensures.made)

pub returns-in_err-program-clause-shows : goal.returns-in_err-program-clause-shows
returns-in_err-program-clause-shows c =
    let is = demonstrated-is c.args.count _ _ _ (c.as_slice.ensures ∙ c.in_ok-script.ensures) c.in_ok-keeper.ensures c.in_ok-tree.ensures in
    let made = c.in_ok-thunks.ensures.made in
    handed_top _ _ c.from_residual-in_err-program.ensures (λ r. ShowsDemonstration (demonstrated c.args.count) r)
    (same_stops _ _ is c.in_err-program.field-0.0 (program_stops _ _ _ _ made c.in_err-program.field-0.0 (c.in_err-program.ensures.shows made.last.thunks)))

pub returns-clause-shows : goal.returns-clause-shows
returns-clause-shows c =
    let is = demonstrated-is c.args.count _ _ _ (c.as_slice.ensures ∙ c.in_ok-script.ensures) c.in_ok-keeper.ensures c.in_ok-tree.ensures in
    let made = c.in_ok-thunks.ensures.made in
    sym is ∙ program_shown _ _ _ _ made _ (c.in_ok-program.ensures.shows made.last.thunks)
