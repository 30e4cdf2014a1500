use Rattle.std.proofs.Common.{[], ◌∷◌, List, ℕ, subst, ◌∙◌}
use Rattle.file_tree.specs.Files.{filed_in}
use Rattle.file_tree.specs.declared.change.Change.TheVariants.{Written}
use Rattle.thunk_codec.specs.Placeholder.{placeholder_text}
use Rattle.build_plan.specs.StepContracts.{Changes, FaresFiles}
use Rattle.build_plan.proofs.CountsAddUp.{files-none}
use Rattle.build_plan.proofs.FilesAreChanged.{no-prefix}
use Rattle.build_plan.proofs.WorkGoesOn.{handed}
use Rattle.build_plan.proofs.targets.leave_placeholder.Goals as goal

pub returns-in_err-text-clause-changes : goal.returns-in_err-text-clause-changes
returns-in_err-text-clause-changes g c told =
    handed (Changes (Written c.args.path.now (placeholder_text c.args.name.now c.args.index) ∷ []) (filed_in g.T.Tree.files g.T.Tree.changes c.args.tree.now) (filed_in g.T.Tree.files g.T.Tree.changes c.args.tree.now)) _ _ c.from_residual.ensures (no-prefix _ _)

pub returns-in_err-text-clause-fares : goal.returns-in_err-text-clause-fares
returns-in_err-text-clause-fares g c = handed (FaresFiles _ _ _ _ _ _) _ _ c.from_residual.ensures (files-none _ _ _ _ _ _ tt)

pub returns-clause-changes : goal.returns-clause-changes
returns-clause-changes g c told =
    subst (λ (bytes : List ℕ). Changes (Written c.args.path.now bytes ∷ []) (filed_in g.T.Tree.files g.T.Tree.changes c.args.tree.now) (filed_in g.T.Tree.files g.T.Tree.changes c.write_file.new.tree) c.write_file.result) (c.as_slice.ensures ∙ c.in_ok-text.ensures.text) (c.write_file.ensures.changes told)
