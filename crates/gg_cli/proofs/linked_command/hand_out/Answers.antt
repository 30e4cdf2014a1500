use Rattle.std.proofs.Common.{◌∙◌}
use Rattle.blob_store.proofs.PublicLaws.{same_kept}
use Rattle.gg_cli.proofs.PartsCauseTheWhole.{Ends-handed, EndCause-handed}
use Rattle.gg_cli.proofs.StepsMakeTheAnswer.{filing_ends, filing_cause, printed_done, printed_ends}
use Rattle.gg_cli.proofs.linked_command.hand_out.Goals as goal

pub returns-in_err-write_files-clause-ends : goal.returns-in_err-write_files-clause-ends
returns-in_err-write_files-clause-ends g c kept files before writes made =
    Ends-handed _ _ _ _ c.from_residual.ensures (filing_ends writes _ before _ (same_kept g.K.Keeper.store g.K.Keeper.writes _ _ (c.write_files.ensures.same kept) (c.write_files.ensures.list kept) ∙ made) _ _ _ (Unit {0}) _ _ (c.in_err-write_files.ensures.filed kept files))

pub returns-in_err-write_files-clause-cause : goal.returns-in_err-write_files-clause-cause
returns-in_err-write_files-clause-cause g c = EndCause-handed _ _ _ _ c.from_residual.ensures (filing_cause (Unit {0}) _ _ _ c.in_err-write_files.ensures.cause)

pub returns-in-Ok-clause-ends : goal.returns-in-Ok-clause-ends
returns-in-Ok-clause-ends g c kept files before writes made =
    printed_done writes _ before _ (same_kept g.K.Keeper.store g.K.Keeper.writes _ _ (c.write_files.ensures.same kept) (c.write_files.ensures.list kept) ∙ made) _ _ _ _ _ _ _ (c.in_ok-write_files.ensures.filed kept files) _ c.in-Ok.ensures

pub returns-in-Err-clause-ends : goal.returns-in-Err-clause-ends
returns-in-Err-clause-ends g c kept files before writes made =
    rw c.output_fault.ensures (printed_ends writes _ before _ (same_kept g.K.Keeper.store g.K.Keeper.writes _ _ (c.write_files.ensures.same kept) (c.write_files.ensures.list kept) ∙ made) _ _ _ _ _ _ _ (c.in_ok-write_files.ensures.filed kept files) _ _ c.in-Err.ensures)
