use Rattle.std.proofs.Common.{ℕ, subst}
use Rattle.object_name.specs.Causes.{TriesAtMost}
use Rattle.gg_cli.proofs.BuildsMakeTheAnswer.{build_ends, build_printed, build_unprinted}
use Rattle.gg_cli.proofs.LinesCauseTheEnd.{line_unfiled, tree_cause, tree_unkept}
use Rattle.gg_cli.proofs.build_command.build_text.Goals as goal

pub returns-in-Err-clause-ends : goal.returns-in-Err-clause-ends
returns-in-Err-clause-ends g c files kept = rw c.line_fault.ensures.is_fault (build_ends c.args.text.now kept _ _ _ _ (c.in-Err.ensures.exact files))

pub returns-in-Err-clause-cause : goal.returns-in-Err-clause-cause
returns-in-Err-clause-cause g c kept = rw c.line_fault.ensures.is_fault (tree_cause ℕ _ _ _ _ _ _ _ c.in-Err.ensures.cause)

pub returns-in-Err-clause-no_keeper : goal.returns-in-Err-clause-no_keeper
returns-in-Err-clause-no_keeper g c = rw c.line_fault.ensures.is_fault (tree_unkept ℕ _ _ _ _ c.in-Err.ensures.cause)

pub returns-in-Err-clause-file_tries : goal.returns-in-Err-clause-file_tries
returns-in-Err-clause-file_tries g c files = rw c.line_fault.ensures.is_fault (
    subst (TriesAtMost c.args.retries g.T.Tree.calls g.T.Tree.faults c.args.tree.now c.build_at_once.new.tree) (line_unfiled ℕ _) (c.in-Err.ensures.tries files))

pub returns-in-Ok-print_count-clause-ends : goal.returns-in-Ok-print_count-clause-ends
returns-in-Ok-print_count-clause-ends g c files kept = build_printed c.args.text.now kept _ _ _ (c.in-Ok.ensures.exact files) _ _ _ _ _ c.in-Ok-print_count.ensures

pub returns-in-Err-print_count-clause-ends : goal.returns-in-Err-print_count-clause-ends
returns-in-Err-print_count-clause-ends g c files kept =
    rw c.output_fault.ensures (build_unprinted c.args.text.now kept _ _ _ (c.in-Ok.ensures.exact files) _ _ _ _ (Unit {0}) _ c.in-Err-print_count.ensures)
