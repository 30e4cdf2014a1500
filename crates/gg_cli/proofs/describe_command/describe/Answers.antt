use Rattle.std.proofs.Common.{refl, rules, sym, subst}
use Rattle.thunk_codec.specs.declared.reference.Ref.{Ref}
use Rattle.thunk_codec.specs.Thunk.{Parts}
use Rattle.object_name.specs.Causes.{TriesAtMost}
use Rattle.object_name.proofs.PublicLaws.{tries-none}
use Rattle.blob_store.specs.Keeping.{kept}
use Rattle.blob_store.proofs.PublicLaws.{same_kept}
use Rattle.file_tree.proofs.PublicLaws.{same_filed}
use Rattle.gg_cli.specs.Endings.{ending_of}
use Rattle.gg_cli.specs.StepContracts.{file_faults_of, kept_faults_of}
use Rattle.gg_cli.proofs.PartsCauseTheWhole.{Ends-handed, EndCause-handed, TopCause-kept}
use Rattle.gg_cli.proofs.ReadingMakesTheAnswer.{item_stops, stops_after, thunk_printed, thunk_stops}
use Rattle.gg_cli.proofs.StepsMakeTheAnswer.{want_cause}
use Rattle.gg_cli.proofs.TriesAddUp.{handed, kept-unfiled, want-fails, want-unkept}
use Rattle.gg_cli.proofs.describe_command.describe.Goals as goal

pub returns-in_err-reference-clause-ends : goal.returns-in_err-reference-clause-ends
returns-in_err-reference-clause-ends g c told files =
    Ends-handed _ _ _ _ c.from_residual.ensures
    (stops_after (kept g.K.Keeper.store g.K.Keeper.writes c.args.keeper.now) _ _ _ refl (same_filed g.T.Tree.files g.T.Tree.changes _ _ (c.ref_of_item.ensures.same files) (c.ref_of_item.ensures.list files)) _ _ _
    (item_stops (g.K.Keeper.store c.args.keeper.now) _ _ (c.in_err-reference.ensures.exact files)))

pub returns-in_err-reference-clause-cause : goal.returns-in_err-reference-clause-cause
returns-in_err-reference-clause-cause g c = EndCause-handed _ _ _ _ c.from_residual.ensures (want_cause Ref _ _ _ c.in_err-reference.ensures.cause)

pub returns-in_err-reference-clause-kept_tries : goal.returns-in_err-reference-clause-kept_tries
returns-in_err-reference-clause-kept_tries g c kept =
    handed (TriesAtMost c.args.retries g.K.Keeper.calls g.K.Keeper.faults c.args.keeper.now c.args.keeper.now) kept_faults_of _ _ c.from_residual.ensures
    (subst (TriesAtMost c.args.retries g.K.Keeper.calls g.K.Keeper.faults c.args.keeper.now c.args.keeper.now) (sym (want-unkept c.in_err-reference.field-0.0)) (tries-none c.args.retries g.K.Keeper.calls g.K.Keeper.faults c.args.keeper.now))

pub returns-in_err-reference-clause-file_tries : goal.returns-in_err-reference-clause-file_tries
returns-in_err-reference-clause-file_tries g c files =
    handed (TriesAtMost c.args.retries g.T.Tree.calls g.T.Tree.faults c.args.tree.now c.ref_of_item.new.tree) file_faults_of _ _ c.from_residual.ensures
    (subst (TriesAtMost c.args.retries g.T.Tree.calls g.T.Tree.faults c.args.tree.now c.ref_of_item.new.tree) (want-fails Ref c.in_err-reference.field-0.0) (c.in_err-reference.ensures.tries files))

pub returns-in_err-thunk-clause-ends : goal.returns-in_err-thunk-clause-ends
returns-in_err-thunk-clause-ends g c kept files =
    Ends-handed _ _ _ _ c.from_residual-in_err-thunk.ensures
    (stops_after _ _ _ _ (same_kept g.K.Keeper.store g.K.Keeper.writes _ _ (c.read_thunk.ensures.same kept) (c.read_thunk.ensures.list kept))
    (same_filed g.T.Tree.files g.T.Tree.changes _ _ (c.ref_of_item.ensures.same files) (c.ref_of_item.ensures.list files)) (g.O.Sink.written c.args.out.now) _ _
    (thunk_stops (g.K.Keeper.store c.args.keeper.now) _ _ (c.in_ok-reference.ensures.exact files) _ c.name-name.ensures _ (c.in_err-thunk.ensures.reads kept)))

pub returns-in_err-thunk-clause-cause : goal.returns-in_err-thunk-clause-cause
returns-in_err-thunk-clause-cause g c =
    EndCause-handed _ _ _ _ c.from_residual-in_err-thunk.ensures (TopCause-kept _ _ _ _ (search rules) (search rules) (ending_of _).status c.in_err-thunk.ensures.cause)

pub returns-in_err-thunk-clause-kept_tries : goal.returns-in_err-thunk-clause-kept_tries
returns-in_err-thunk-clause-kept_tries g c kept =
    handed (TriesAtMost c.args.retries g.K.Keeper.calls g.K.Keeper.faults c.args.keeper.now c.read_thunk.new.keeper) kept_faults_of _ _ c.from_residual-in_err-thunk.ensures (c.in_err-thunk.ensures.kept_tries kept)

pub returns-in_err-thunk-clause-file_tries : goal.returns-in_err-thunk-clause-file_tries
returns-in_err-thunk-clause-file_tries g c files =
    handed (TriesAtMost c.args.retries g.T.Tree.calls g.T.Tree.faults c.args.tree.now c.ref_of_item.new.tree) file_faults_of _ _ c.from_residual-in_err-thunk.ensures
    (subst (TriesAtMost c.args.retries g.T.Tree.calls g.T.Tree.faults c.args.tree.now c.ref_of_item.new.tree) (sym (kept-unfiled Parts _ _ _ c.in_err-thunk.field-0.0 c.in_err-thunk.ensures.cause)) (c.in_ok-reference.ensures.tries files))

pub returns-in-Ok-clause-ends : goal.returns-in-Ok-clause-ends
returns-in-Ok-clause-ends g c kept files =
    thunk_printed (g.K.Keeper.store c.args.keeper.now) _ _ (c.in_ok-reference.ensures.exact files) _ c.name-name.ensures _ (c.in_ok-thunk.ensures.reads kept)
    _ _ (same_kept g.K.Keeper.store g.K.Keeper.writes _ _ (c.read_thunk.ensures.same kept) (c.read_thunk.ensures.list kept))
    _ _ (same_filed g.T.Tree.files g.T.Tree.changes _ _ (c.ref_of_item.ensures.same files) (c.ref_of_item.ensures.list files)) _ _ _ _ _ c.in-Ok.ensures
