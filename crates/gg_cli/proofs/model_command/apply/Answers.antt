use Rattle.std.proofs.Common.{ℕ, refl, subst}
use Rattle.object_name.specs.Causes.{TriesAtMost}
use Rattle.build_script.specs.Commands.{own_word}
use Rattle.gg_cli.specs.Answer.{no_text}
use Rattle.gg_cli.specs.StepContracts.{work_counts}
use Rattle.gg_cli.proofs.WorkMakesTheAnswer.{work_cause, work_done, work_ends, work_unfiled, work_unkept}
use Rattle.gg_cli.proofs.model_command.apply.Goals as goal

pub returns-in-Ok-clause-ends : goal.returns-in-Ok-clause-ends
returns-in-Ok-clause-ends g c kept files told = work_done no_text (own_word c.args.words.now) _ _ told {T = Unit {0}} _ tt refl (c.in-Ok.ensures.exact kept files)

pub returns-in-Err-clause-ends : goal.returns-in-Err-clause-ends
returns-in-Err-clause-ends g c kept files told =
    work_ends no_text (own_word c.args.words.now) _ _ told _ _ (c.in-Err.ensures.exact kept files) (rw c.own_word.ensures at c.work_fault.ensures.is_fault)

pub returns-in-Err-clause-cause : goal.returns-in-Err-clause-cause
returns-in-Err-clause-cause g c = work_cause ℕ (own_word c.args.words.now) _
    (work_counts (g.K.Keeper.faults c.args.keeper.now) (g.K.Keeper.faults c.apply_plan.new.keeper) (g.T.Tree.faults c.args.tree.now) (g.T.Tree.faults c.apply_plan.new.tree)) _ _ c.in-Err.ensures.cause (rw c.own_word.ensures at c.work_fault.ensures.is_fault)

pub returns-in-Err-clause-kept_tries : goal.returns-in-Err-clause-kept_tries
returns-in-Err-clause-kept_tries g c kept =
    subst (TriesAtMost c.args.retries g.K.Keeper.calls g.K.Keeper.faults c.args.keeper.now c.apply_plan.new.keeper)
    (work_unkept ℕ (own_word c.args.words.now) _ _ (rw c.own_word.ensures at c.work_fault.ensures.is_fault)) (c.in-Err.ensures.kept_tries kept)

pub returns-in-Err-clause-file_tries : goal.returns-in-Err-clause-file_tries
returns-in-Err-clause-file_tries g c files =
    subst (TriesAtMost c.args.retries g.T.Tree.calls g.T.Tree.faults c.args.tree.now c.apply_plan.new.tree)
    (work_unfiled ℕ (own_word c.args.words.now) _ _ (rw c.own_word.ensures at c.work_fault.ensures.is_fault)) (c.in-Err.ensures.file_tries files)
