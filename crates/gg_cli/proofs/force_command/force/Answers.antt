use Rattle.std.proofs.Common.{List, rules, sym, subst}
use Rattle.thunk_codec.specs.declared.reference.Ref.{Ref}
use Rattle.object_name.specs.Causes.{TriesAtMost}
use Rattle.object_name.proofs.PublicLaws.{tries-none, tries-trans}
use Rattle.object_name.specs.Name.{ObjectName}
use Rattle.gg_cli.specs.Endings.{ending_of}
use Rattle.gg_cli.specs.StepContracts.{file_faults_of, kept_faults_of}
use Rattle.gg_cli.proofs.TriesAddUp.{handed, want-unkept, want-fails, kept-unfiled}
use Rattle.blob_store.specs.Keeping.{kept}
use Rattle.file_tree.specs.Files.{filed_in}
use Rattle.file_tree.specs.Wanted.{wanted_of}
use Rattle.file_tree.proofs.PublicLaws.{same_filed}
use Rattle.need_eval.specs.Evaluation.{by_function}
use Rattle.sandbox_run.specs.Cards.{card_outcome}
use Rattle.gg_cli.specs.ValueLines.{value_lines}
use Rattle.gg_cli.proofs.PartsCauseTheWhole.{Ends-handed, EndCause-handed, EndCause-within, TopCause-kept}
use Rattle.gg_cli.proofs.StepsMakeTheAnswer.{want_ends, want_cause, values_end, hands_end}
use Rattle.gg_cli.proofs.force_command.force.Goals as goal

pub returns-in_err-refs-clause-ends : goal.returns-in_err-refs-clause-ends
returns-in_err-refs-clause-ends g c keeps tells =
    Ends-handed _ _ _ _ c.from_residual.ensures
    (want_ends (by_function card_outcome) value_lines c.args.budget c.args.items.now (kept g.K.Keeper.store g.K.Keeper.writes c.args.keeper.now)
    (filed_in g.T.Tree.files g.T.Tree.changes c.args.tree.now) (filed_in g.T.Tree.files g.T.Tree.changes c.wanted.new.tree)
    (same_filed g.T.Tree.files g.T.Tree.changes _ _ (c.wanted.ensures.same tells) (c.wanted.ensures.list tells)) (g.O.Sink.written c.args.out.now) (wanted_of (g.T.Tree.files c.args.tree.now) c.args.items.now) c.in_err-refs.field-0.0 (c.in_err-refs.ensures.exact tells))

pub returns-in_err-refs-clause-cause : goal.returns-in_err-refs-clause-cause
returns-in_err-refs-clause-cause g c = EndCause-handed _ _ _ _ c.from_residual.ensures (want_cause (List Ref) _ _ _ c.in_err-refs.ensures.cause)

pub returns-in_err-names-clause-ends : goal.returns-in_err-names-clause-ends
returns-in_err-names-clause-ends g c kept files =
    Ends-handed _ _ _ _ c.from_residual-in_err-names.ensures
    (values_end _ _ _ _ _ _ (same_filed g.T.Tree.files g.T.Tree.changes _ _ (c.wanted.ensures.same files) (c.wanted.ensures.list files)) _ _ (c.in_ok-refs.ensures.exact files) _ _ (c.in_err-names.ensures.values kept))

pub returns-in_err-names-clause-cause : goal.returns-in_err-names-clause-cause
returns-in_err-names-clause-cause g c =
    EndCause-handed _ _ _ _ c.from_residual-in_err-names.ensures (TopCause-kept _ _ _ _ (search rules) (search rules) (ending_of _).status c.in_err-names.ensures.cause)

pub returns-clause-ends : goal.returns-clause-ends
returns-clause-ends g c kept files =
    hands_end _ _ _ _ _ _ (same_filed g.T.Tree.files g.T.Tree.changes _ _ (c.wanted.ensures.same files) (c.wanted.ensures.list files)) _ _ (c.in_ok-refs.ensures.exact files) _ _ _ _ _ _ (c.in_ok-names.ensures.values kept) (rw c.as_slice.ensures at c.hand_out.ensures.ends kept files)

pub returns-clause-cause : goal.returns-clause-cause
returns-clause-cause g c =
    EndCause-within _ _ _ (record {
      kept_from = search rules;
      kept_to = search rules;
      files_from = search rules;
      files_to = search rules;
      out_from = search rules;
      out_to = search rules;
    }) _ c.hand_out.ensures.cause

pub returns-in_err-refs-clause-kept_tries : goal.returns-in_err-refs-clause-kept_tries
returns-in_err-refs-clause-kept_tries g c kept =
    handed (TriesAtMost c.args.retries g.K.Keeper.calls g.K.Keeper.faults c.args.keeper.now c.args.keeper.now) kept_faults_of _ _ c.from_residual.ensures
    (subst (TriesAtMost c.args.retries g.K.Keeper.calls g.K.Keeper.faults c.args.keeper.now c.args.keeper.now) (sym (want-unkept c.in_err-refs.field-0.0)) (tries-none c.args.retries g.K.Keeper.calls g.K.Keeper.faults c.args.keeper.now))

pub returns-in_err-refs-clause-file_tries : goal.returns-in_err-refs-clause-file_tries
returns-in_err-refs-clause-file_tries g c files =
    handed (TriesAtMost c.args.retries g.T.Tree.calls g.T.Tree.faults c.args.tree.now c.wanted.new.tree) file_faults_of _ _ c.from_residual.ensures
    (subst (TriesAtMost c.args.retries g.T.Tree.calls g.T.Tree.faults c.args.tree.now c.wanted.new.tree) (want-fails (List Ref) c.in_err-refs.field-0.0) (c.in_err-refs.ensures.tries files))

pub returns-in_err-names-clause-kept_tries : goal.returns-in_err-names-clause-kept_tries
returns-in_err-names-clause-kept_tries g c kept =
    handed (TriesAtMost c.args.retries g.K.Keeper.calls g.K.Keeper.faults c.args.keeper.now c.find_values.new.keeper) kept_faults_of _ _ c.from_residual-in_err-names.ensures (c.in_err-names.ensures.kept_tries kept)

pub returns-in_err-names-clause-file_tries : goal.returns-in_err-names-clause-file_tries
returns-in_err-names-clause-file_tries g c files =
    handed (TriesAtMost c.args.retries g.T.Tree.calls g.T.Tree.faults c.args.tree.now c.wanted.new.tree) file_faults_of _ _ c.from_residual-in_err-names.ensures
    (subst (TriesAtMost c.args.retries g.T.Tree.calls g.T.Tree.faults c.args.tree.now c.wanted.new.tree) (sym (kept-unfiled (List ObjectName) _ _ _ c.in_err-names.field-0.0 c.in_err-names.ensures.cause)) (c.in_ok-refs.ensures.tries files))

pub returns-clause-kept_tries : goal.returns-clause-kept_tries
returns-clause-kept_tries g c kept =
    tries-trans c.args.retries g.K.Keeper.calls g.K.Keeper.faults c.args.keeper.now c.find_values.new.keeper c.hand_out.new.keeper _ (c.in_ok-names.ensures.kept_tries kept) (c.hand_out.ensures.kept_tries kept)

pub returns-clause-file_tries : goal.returns-clause-file_tries
returns-clause-file_tries g c files =
    tries-trans c.args.retries g.T.Tree.calls g.T.Tree.faults c.args.tree.now c.wanted.new.tree c.hand_out.new.tree _ (c.in_ok-refs.ensures.tries files) (c.hand_out.ensures.file_tries files)
