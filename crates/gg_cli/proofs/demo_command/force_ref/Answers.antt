use Rattle.blob_store.specs.Memory.{store_of}
use Rattle.need_eval.specs.Eval.{start}
use Rattle.need_eval.specs.Evaluation.{by_function, value_of}
use Rattle.sandbox_run.specs.Cards.{card_outcome}
use Rattle.gg_cli.specs.Answer.{program_forced}
use Rattle.gg_cli.specs.ForceWords.{default_budget}
use Rattle.gg_cli.specs.StepContracts.{ShowsProgram}
use Rattle.gg_cli.proofs.DemoMakesTheAnswer.{value_alone, value_shown, value_stops}
use Rattle.gg_cli.proofs.InputMakesTheAnswer.{handed_top}
use Rattle.gg_cli.proofs.demo_command.force_ref.Goals as goal

pub returns-in_err-refs-clause-shows : goal.returns-in_err-refs-clause-shows
returns-in_err-refs-clause-shows c thunks =
    handed_top _ _ c.from_residual.ensures
    (λ r. ShowsProgram thunks (program_forced thunks (value_of (by_function card_outcome) default_budget c.args.reference (start (store_of c.args.keeper.now)))) r) tt

pub only_name-requires : goal.only_name-requires
only_name-requires c = rw c.as_slice.ensures (value_alone _ _ _ _ c.in_ok-refs.ensures _ (c.in-Ok.ensures.exact tt))

pub returns-in-Ok-clause-shows : goal.returns-in-Ok-clause-shows
returns-in-Ok-clause-shows c thunks =
    value_shown _ _ _ _ c.in_ok-refs.ensures _ (c.in-Ok.ensures.exact tt) _ (rw c.as_slice.ensures at c.only_name.ensures) thunks

pub returns-in-Err-clause-shows : goal.returns-in-Err-clause-shows
returns-in-Err-clause-shows c thunks = value_stops _ _ _ _ c.in_ok-refs.ensures _ _ (c.in-Err.ensures.exact tt) c.fault_of.ensures.is_fault thunks
