use Rattle.std.proofs.Common.{refl}
use Rattle.std.proofs.lemmas.Result.{err_from_is_err_and}
use Rattle.blob_store.specs.Keeping.{kept}
use Rattle.file_tree.specs.Files.{filed_in}
use Rattle.build_plan.specs.Applying.{sides}
use Rattle.build_script.proofs.LineInferred.{line_refused, line_idle, work_done, work_fails}
use Rattle.build_script.proofs.inferring.infer_line.Goals as goal

pub returns-in_err-command-clause-exact : goal.returns-in_err-command-clause-exact
returns-in_err-command-clause-exact g c = λ told told_tree.
    let p = err_from_is_err_and c.from_residual.result c.from_residual.ensures.1 in
    rw (p.1, p.2) (λ others. line_refused c.args.line.now others
    (sides (kept g.K.Keeper.store g.K.Keeper.writes) (filed_in g.T.Tree.files g.T.Tree.changes) c.args.keeper.now c.args.keeper.now c.args.tree.now c.args.tree.now)
    c.in_err-command.field-0.0 c.in_err-command.ensures.exact refl refl)

pub returns-in_default-clause-exact : goal.returns-in_default-clause-exact
returns-in_default-clause-exact g c = λ told told_tree.
    line_idle c.args.line.now
    (sides (kept g.K.Keeper.store g.K.Keeper.writes) (filed_in g.T.Tree.files g.T.Tree.changes) c.args.keeper.now c.args.keeper.now c.args.tree.now c.args.tree.now)
    (record { commands = 0; thunks = 0 }) (rw c.in_default.is at c.in_ok-command.ensures.exact) refl refl refl refl

pub returns-in-Ok-clause-exact : goal.returns-in-Ok-clause-exact
returns-in-Ok-clause-exact g c = λ told told_tree.
    work_done c.args.line.now
    (sides (kept g.K.Keeper.store g.K.Keeper.writes) (filed_in g.T.Tree.files g.T.Tree.changes) c.args.keeper.now c.apply_plan.new.keeper c.args.tree.now c.apply_plan.new.tree)
    c.in-Some.command (rw c.in-Some.is at c.in_ok-command.ensures.exact) (record { commands = 1; thunks = c.in-Ok.thunks }) refl (c.in-Ok.ensures.exact told told_tree)

pub returns-clause-exact : goal.returns-clause-exact
returns-clause-exact g c = λ told told_tree others.
    work_fails c.args.line.now others
    (sides (kept g.K.Keeper.store g.K.Keeper.writes) (filed_in g.T.Tree.files g.T.Tree.changes) c.args.keeper.now c.apply_plan.new.keeper c.args.tree.now c.apply_plan.new.tree)
    c.in-Some.command (rw c.in-Some.is at c.in_ok-command.ensures.exact) c.in-Err.fault c.work_fault.result (rw c.as_slice-words.ensures at c.work_fault.ensures) (c.in-Err.ensures.exact told told_tree)
