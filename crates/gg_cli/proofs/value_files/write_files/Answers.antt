use Rattle.std.proofs.Common.{inl, inr, rules, ◌∙◌}
use Rattle.gg_cli.proofs.FilesAreWrittenInOrder.{filed_more, filed_stop, filed_all, next_held}
use Rattle.object_name.specs.Causes.{TriesAtMost}
use Rattle.object_name.proofs.PublicLaws.{tries-trans}
use Rattle.gg_cli.specs.StepContracts.{file_faults_filing, kept_faults_filing}
use Rattle.gg_cli.proofs.TriesAddUp.{handed}
use Rattle.gg_cli.proofs.value_files.write_files.Goals as goal

pub values-preserved : goal.values-preserved
values-preserved g c = let next = c.in-Some.ensures.steps in
    record {
      done = λ kept files. filed_more (g.K.Keeper.store c.args.keeper.now) (g.K.Keeper.store c.values.keeper) (c.values.invariant.same kept)
          _ c.next.new.self.a.rest.now _ c.next.new.self.b.rest.now c.in-Some.name.now c.in-Some.item.now next.0 next.1 _ _ _ _ (c.values.invariant.done kept files)
          _ _ (c.write_item.ensures.filed kept files) c.in_ok-write_item.was;
      held = λ kept. (next_held (g.K.Keeper.store c.args.keeper.now) _ c.next.new.self.a.rest.now c.in-Some.name.now next.0 (c.values.invariant.held kept)).1;
      same = λ kept. c.write_item.ensures.same kept ∙ c.values.invariant.same kept;
      list = λ kept. c.write_item.ensures.list kept ∙ c.values.invariant.list kept;
      kept_later = search rules;
      files_later = search rules;
      kept_tried = λ kept. tries-trans c.args.retries g.K.Keeper.calls g.K.Keeper.faults c.args.keeper.now c.values.keeper c.write_item.new.keeper 0 (c.values.invariant.kept_tried kept) (c.in_ok-write_item.ensures.kept_tries kept);
      file_tried = λ files. tries-trans c.args.retries g.T.Tree.calls g.T.Tree.faults c.args.tree.now c.values.tree c.write_item.new.tree 0 (c.values.invariant.file_tried files) (c.in_ok-write_item.ensures.file_tries files);
    }

pub returns-in_err-write_item-clause-filed : goal.returns-in_err-write_item-clause-filed
returns-in_err-write_item-clause-filed g c kept files = let next = c.in-Some.ensures.steps in
    filed_stop (g.K.Keeper.store c.args.keeper.now) (g.K.Keeper.store c.values.keeper) (c.values.invariant.same kept)
    _ c.next.new.self.a.rest.now _ c.next.new.self.b.rest.now c.in-Some.name.now c.in-Some.item.now next.0 next.1 _ _ _ _ (c.values.invariant.done kept files)
    _ _ _ (c.write_item.ensures.filed kept files) c.in_err-write_item.was c.from_residual.ensures

pub returns-clause-filed : goal.returns-clause-filed
returns-clause-filed g c kept files =
    filed_all _ _ _ _ _ _ (c.values.invariant.done kept files) (elim c.in-None.ensures.steps [ inl h ↦ inl h.1.0 | inr h ↦ inr h.1.0 ])

pub returns-in_err-write_item-clause-kept_tries : goal.returns-in_err-write_item-clause-kept_tries
returns-in_err-write_item-clause-kept_tries g c kept =
    handed (TriesAtMost c.args.retries g.K.Keeper.calls g.K.Keeper.faults c.args.keeper.now c.write_item.new.keeper) kept_faults_filing _ _ c.from_residual.ensures
    (tries-trans c.args.retries g.K.Keeper.calls g.K.Keeper.faults c.args.keeper.now c.values.keeper c.write_item.new.keeper _ (c.values.invariant.kept_tried kept) (c.in_err-write_item.ensures.kept_tries kept))

pub returns-in_err-write_item-clause-file_tries : goal.returns-in_err-write_item-clause-file_tries
returns-in_err-write_item-clause-file_tries g c files =
    handed (TriesAtMost c.args.retries g.T.Tree.calls g.T.Tree.faults c.args.tree.now c.write_item.new.tree) file_faults_filing _ _ c.from_residual.ensures
    (tries-trans c.args.retries g.T.Tree.calls g.T.Tree.faults c.args.tree.now c.values.tree c.write_item.new.tree _ (c.values.invariant.file_tried files) (c.in_err-write_item.ensures.file_tries files))
