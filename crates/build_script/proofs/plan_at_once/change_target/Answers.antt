use Rattle.std.proofs.Common.{[], ◌∷◌, List, ℕ, subst}
use Rattle.file_tree.specs.Files.{filed_in}
use Rattle.file_tree.specs.declared.change.Change.TheVariants.{Written}
use Rattle.build_script.specs.WorkAtOnce.{Changes}
use Rattle.build_script.proofs.plan_at_once.change_target.Goals as goal

pub returns-in-Keep-clause-changes : goal.returns-in-Keep-clause-changes
returns-in-Keep-clause-changes g c told = rw c.in-Keep.is
    (subst (λ (bytes : List ℕ). Changes (Written c.in-Keep.path bytes ∷ []) (filed_in g.T.Tree.files g.T.Tree.changes c.args.tree.now) (filed_in g.T.Tree.files g.T.Tree.changes c.write_file.new.tree) c.write_file.result) c.item_at.ensures (c.write_file.ensures.changes told))

pub returns-in-Keep-clause-fares : goal.returns-in-Keep-clause-fares
returns-in-Keep-clause-fares g c = c.write_file.ensures.fares

pub returns-in-Drop-clause-changes : goal.returns-in-Drop-clause-changes
returns-in-Drop-clause-changes g c told = rw c.in-Drop.is (c.remove_file.ensures.changes told)

pub returns-in-Drop-clause-fares : goal.returns-in-Drop-clause-fares
returns-in-Drop-clause-fares g c = c.remove_file.ensures.fares
