use Rattle.std.proofs.Common.{subst, sym}
use Rattle.blob_store.specs.Keeping.{kept}
use Rattle.file_tree.specs.Files.{filed_in}
use Rattle.object_name.specs.Causes.{TriesAtMost}
use Rattle.object_name.proofs.PublicLaws.{tries-none}
use Rattle.gg_cli.proofs.InputMakesTheAnswer.{fits_ends}
use Rattle.gg_cli.proofs.top.do_command.Goals as goal

pub returns-in-Model-clause-ends : goal.returns-in-Model-clause-ends
returns-in-Model-clause-ends g c kept files = rw c.in-Model.is (rw c.as_slice-in-Model.ensures at (c.model.ensures.ends kept files (g.O.Sink.written c.args.out.now)))

pub returns-in-Infer-clause-ends : goal.returns-in-Infer-clause-ends
returns-in-Infer-clause-ends g c kept files = rw c.in-Infer.is (fits_ends c.args.text.now _ _ _ c.requires.fits (c.infer_text.ensures.ends kept files))

pub returns-in-Build-clause-ends : goal.returns-in-Build-clause-ends
returns-in-Build-clause-ends g c told files =
    rw c.in-Build.is (fits_ends c.args.text.now _ _ _ c.requires.fits (c.build_text.ensures.ends files (kept g.K.Keeper.store g.K.Keeper.writes c.args.keeper.now)))

pub returns-in-Build-clause-cause : goal.returns-in-Build-clause-cause
returns-in-Build-clause-cause g c = rw c.in-Build.is (c.build_text.ensures.cause (g.K.Keeper.faults c.args.keeper.now))

pub returns-in-Build-clause-kept_tries : goal.returns-in-Build-clause-kept_tries
returns-in-Build-clause-kept_tries g c kept = rw c.in-Build.is (
    subst (TriesAtMost 2 g.K.Keeper.calls g.K.Keeper.faults c.args.keeper.now c.args.keeper.now) (sym c.build_text.ensures.no_keeper) (tries-none 2 g.K.Keeper.calls g.K.Keeper.faults c.args.keeper.now))

pub returns-in-Help-clause-ends : goal.returns-in-Help-clause-ends
returns-in-Help-clause-ends g c told files = rw c.in-Help.is (c.help.ensures.ends (kept g.K.Keeper.store g.K.Keeper.writes c.args.keeper.now) (filed_in g.T.Tree.files g.T.Tree.changes c.args.tree.now))

pub returns-in-Help-clause-cause : goal.returns-in-Help-clause-cause
returns-in-Help-clause-cause g c = rw c.in-Help.is (c.help.ensures.cause 2 (g.K.Keeper.faults c.args.keeper.now) (g.T.Tree.faults c.args.tree.now))

pub returns-in-Help-clause-kept_tries : goal.returns-in-Help-clause-kept_tries
returns-in-Help-clause-kept_tries g c kept = rw c.in-Help.is (
    subst (TriesAtMost 2 g.K.Keeper.calls g.K.Keeper.faults c.args.keeper.now c.args.keeper.now) (sym c.help.ensures.no_keeper) (tries-none 2 g.K.Keeper.calls g.K.Keeper.faults c.args.keeper.now))

pub returns-in-Help-clause-file_tries : goal.returns-in-Help-clause-file_tries
returns-in-Help-clause-file_tries g c files = rw c.in-Help.is (
    subst (TriesAtMost 2 g.T.Tree.calls g.T.Tree.faults c.args.tree.now c.args.tree.now) (sym c.help.ensures.no_tree) (tries-none 2 g.T.Tree.calls g.T.Tree.faults c.args.tree.now))

pub returns-in-Demo-clause-ends : goal.returns-in-Demo-clause-ends
returns-in-Demo-clause-ends g c told files = rw c.in-Demo.is (c.demo.ensures.ends (kept g.K.Keeper.store g.K.Keeper.writes c.args.keeper.now) (filed_in g.T.Tree.files g.T.Tree.changes c.args.tree.now))

pub returns-in-Demo-clause-cause : goal.returns-in-Demo-clause-cause
returns-in-Demo-clause-cause g c = rw c.in-Demo.is (c.demo.ensures.cause 2 (g.K.Keeper.faults c.args.keeper.now) (g.T.Tree.faults c.args.tree.now))

pub returns-in-Demo-clause-kept_tries : goal.returns-in-Demo-clause-kept_tries
returns-in-Demo-clause-kept_tries g c kept = rw c.in-Demo.is (
    subst (TriesAtMost 2 g.K.Keeper.calls g.K.Keeper.faults c.args.keeper.now c.args.keeper.now) (sym c.demo.ensures.no_keeper) (tries-none 2 g.K.Keeper.calls g.K.Keeper.faults c.args.keeper.now))

pub returns-in-Demo-clause-file_tries : goal.returns-in-Demo-clause-file_tries
returns-in-Demo-clause-file_tries g c files = rw c.in-Demo.is (
    subst (TriesAtMost 2 g.T.Tree.calls g.T.Tree.faults c.args.tree.now c.args.tree.now) (sym c.demo.ensures.no_tree) (tries-none 2 g.T.Tree.calls g.T.Tree.faults c.args.tree.now))
