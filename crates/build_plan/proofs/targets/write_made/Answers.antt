use Rattle.std.proofs.Common.{arith, ◌≡◌, [], ◌∷◌, sym, subst, ◌∙◌}
use Rattle.std.proofs.lemmas.Option.{unwrap_or-slice_get}
use Rattle.file_tree.specs.Files.{filed_in}
use Rattle.file_tree.specs.declared.change.Change.TheVariants.{Written}
use Rattle.build_plan.specs.Gathered.{item_bytes}
use Rattle.build_plan.specs.StepContracts.{Changes}
use Rattle.build_plan.specs.Way.{item_at}
use Rattle.build_plan.specs.declared.gathered.Gathered.{Gathered}
use Rattle.build_plan.specs.declared.gathered.Gathered.TheVariants.{Plain}
use Rattle.build_plan.proofs.targets.write_made.Goals as goal

pub returns-in-Some-clause-changes : goal.returns-in-Some-clause-changes
returns-in-Some-clause-changes g c told =
    let is : c.in-Some.item.now ≡ item_at (Plain []) c.args.items.now c.args.place = c.in-Some.ensures.lookup.4 (omega arith) (Plain []) ∙ sym (unwrap_or-slice_get c.args.items.now c.args.place (Plain [])) in
    subst (λ (item : Gathered). Changes (Written c.args.path.now (item_bytes item) ∷ []) (filed_in g.T.Tree.files g.T.Tree.changes c.args.tree.now) (filed_in g.T.Tree.files g.T.Tree.changes c.write_item.new.tree) c.write_item.result) is (c.write_item.ensures.changes told)

pub returns-in-None-clause-changes : goal.returns-in-None-clause-changes
returns-in-None-clause-changes g c told =
    let is : Plain [] ≡ item_at (Plain []) c.args.items.now c.args.place = c.in-None.ensures.lookup.4 (omega arith) (Plain []) ∙ sym (unwrap_or-slice_get c.args.items.now c.args.place (Plain [])) in
    subst (λ (item : Gathered). Changes (Written c.args.path.now (item_bytes item) ∷ []) (filed_in g.T.Tree.files g.T.Tree.changes c.args.tree.now) (filed_in g.T.Tree.files g.T.Tree.changes c.write_file.new.tree) c.write_file.result) is (c.write_file.ensures.changes told)
