use Rattle.blob_store.specs.Memory.{store_of}
use Rattle.file_tree.specs.Memory.{files_of}
use Rattle.file_tree.specs.Wanted.{ref_of_item}
use Rattle.gg_cli.specs.Answer.{program_wanted}
use Rattle.gg_cli.specs.Demo.{program}
use Rattle.gg_cli.specs.StepContracts.{ShowsProgram}
use Rattle.gg_cli.proofs.DemoMakesTheAnswer.{wanting_stops}
use Rattle.gg_cli.proofs.InputMakesTheAnswer.{handed_top}
use Rattle.gg_cli.proofs.demo_command.force_program.Goals as goal

pub returns-in_err-item-clause-shows : goal.returns-in_err-item-clause-shows
returns-in_err-item-clause-shows c thunks =
    handed_top _ _ c.from_residual.ensures
    (λ r. ShowsProgram thunks (program_wanted thunks (store_of c.args.keeper.now) (ref_of_item (files_of c.args.tree.now) program)) r) tt

pub returns-in_err-reference-clause-shows : goal.returns-in_err-reference-clause-shows
returns-in_err-reference-clause-shows c thunks =
    handed_top _ _ c.from_residual-in_err-reference.ensures
    (λ r. ShowsProgram thunks (program_wanted thunks (store_of c.args.keeper.now) (ref_of_item (files_of c.args.tree.now) program)) r)
    (wanting_stops thunks (store_of c.args.keeper.now) (files_of c.args.tree.now) c.in_ok-item.item c.in_err-reference.field-0.0 c.in_ok-item.ensures (c.in_err-reference.ensures.exact tt))

pub returns-clause-shows : goal.returns-clause-shows
returns-clause-shows c thunks = rw (rw c.in_ok-item.ensures at c.in_ok-reference.ensures.exact tt) (c.force_ref.ensures.shows thunks)
