use Rattle.std.proofs.Common.{subst}
use Rattle.object_name.specs.Causes.{TriesAtMost}
use Rattle.build_script.specs.declared.inferring.Inferred.{Inferred}
use Rattle.gg_cli.proofs.LinesCauseTheEnd.{line_cause, line_unfiled, line_unkept}
use Rattle.gg_cli.proofs.ScriptsMakeTheAnswer.{infer_ends, infer_printed, infer_unprinted}
use Rattle.gg_cli.proofs.infer_command.infer_text.Goals as goal

pub returns-in-Err-clause-ends : goal.returns-in-Err-clause-ends
returns-in-Err-clause-ends g c kept files = rw c.line_fault.ensures.is_fault (infer_ends c.args.text.now _ _ _ (c.in-Err.ensures.exact kept files))

pub returns-in-Err-clause-cause : goal.returns-in-Err-clause-cause
returns-in-Err-clause-cause g c = rw c.line_fault.ensures.is_fault (line_cause Inferred _ _ _ c.in-Err.ensures.cause)

pub returns-in-Err-clause-kept_tries : goal.returns-in-Err-clause-kept_tries
returns-in-Err-clause-kept_tries g c kept = rw c.line_fault.ensures.is_fault (
    subst (TriesAtMost c.args.retries g.K.Keeper.calls g.K.Keeper.faults c.args.keeper.now c.infer.new.keeper) (line_unkept Inferred _) (c.in-Err.ensures.kept_tries kept))

pub returns-in-Err-clause-file_tries : goal.returns-in-Err-clause-file_tries
returns-in-Err-clause-file_tries g c files = rw c.line_fault.ensures.is_fault (
    subst (TriesAtMost c.args.retries g.T.Tree.calls g.T.Tree.faults c.args.tree.now c.infer.new.tree) (line_unfiled Inferred _) (c.in-Err.ensures.file_tries files))

pub returns-in-Ok-print_inferred-clause-ends : goal.returns-in-Ok-print_inferred-clause-ends
returns-in-Ok-print_inferred-clause-ends g c kept files = infer_printed c.args.text.now _ _ (c.in-Ok.ensures.exact kept files) _ _ _ _ _ c.in-Ok-print_inferred.ensures

pub returns-in-Err-print_inferred-clause-ends : goal.returns-in-Err-print_inferred-clause-ends
returns-in-Err-print_inferred-clause-ends g c kept files =
    rw c.output_fault.ensures (infer_unprinted c.args.text.now _ _ (c.in-Ok.ensures.exact kept files) _ _ _ _ (Unit {0}) _ c.in-Err-print_inferred.ensures)
