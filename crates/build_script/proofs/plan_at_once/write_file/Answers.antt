use Rattle.std.proofs.Common.{[], ◌∷◌}
use Rattle.file_tree.specs.Files.{filed_in}
use Rattle.file_tree.specs.declared.change.Change.TheVariants.{Written}
use Rattle.build_script.specs.WorkAtOnce.{Changes, fault_of_tree}
use Rattle.build_script.proofs.CallsCounted.{handed}
use Rattle.build_script.proofs.PlanAtOnce.{changed-fault}
use Rattle.build_script.proofs.plan_at_once.write_file.Goals as goal

pub returns-in_err-write_again-clause-changes : goal.returns-in_err-write_again-clause-changes
returns-in_err-write_again-clause-changes g c told =
    handed (Changes (Written c.args.path.now c.args.bytes.now ∷ []) (filed_in g.T.Tree.files g.T.Tree.changes c.args.tree.now) (filed_in g.T.Tree.files g.T.Tree.changes c.write_again.new.tree)) _ (fault_of_tree c.in_err-write_again.field-0.0) c.from_residual.ensures (changed-fault (Unit {0}) (Written c.args.path.now c.args.bytes.now) (filed_in g.T.Tree.files g.T.Tree.changes c.args.tree.now) (filed_in g.T.Tree.files g.T.Tree.changes c.write_again.new.tree) c.in_err-write_again.field-0.0 (c.in_err-write_again.ensures.kept told) (c.in_err-write_again.ensures.unlisted told))
