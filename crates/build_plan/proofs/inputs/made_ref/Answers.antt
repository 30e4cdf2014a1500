use Rattle.std.proofs.Common.{arith, ◌≡◌, [], sym, subst, ◌∙◌}
use Rattle.std.proofs.lemmas.Option.{unwrap_or-slice_get}
use Rattle.blob_store.specs.Keeping.{kept}
use Rattle.build_plan.specs.StepContracts.{Goes, between}
use Rattle.build_plan.specs.Symbolic.{ref_of_item}
use Rattle.build_plan.specs.Way.{item_at}
use Rattle.build_plan.specs.declared.gathered.Gathered.{Gathered}
use Rattle.build_plan.specs.declared.gathered.Gathered.TheVariants.{Plain}
use Rattle.build_plan.proofs.inputs.made_ref.Goals as goal

pub returns-in-Some-clause-goes : goal.returns-in-Some-clause-goes
returns-in-Some-clause-goes g c told files =
    let is : c.in-Some.item.now ≡ item_at (Plain []) c.args.items.now c.args.place = c.in-Some.ensures.lookup.4 (omega arith) (Plain []) ∙ sym (unwrap_or-slice_get c.args.items.now c.args.place (Plain [])) in
    subst (λ (item : Gathered). Goes (ref_of_item item) 0 (between (kept g.K.Keeper.store g.K.Keeper.writes c.args.keeper.now) (kept g.K.Keeper.store g.K.Keeper.writes c.store_item.new.keeper) files files) c.store_item.result) is (c.store_item.ensures.goes told files)

pub returns-in-None-clause-goes : goal.returns-in-None-clause-goes
returns-in-None-clause-goes g c told files =
    let is : Plain [] ≡ item_at (Plain []) c.args.items.now c.args.place = c.in-None.ensures.lookup.4 (omega arith) (Plain []) ∙ sym (unwrap_or-slice_get c.args.items.now c.args.place (Plain [])) in
    subst (λ (item : Gathered). Goes (ref_of_item item) 0 (between (kept g.K.Keeper.store g.K.Keeper.writes c.args.keeper.now) (kept g.K.Keeper.store g.K.Keeper.writes c.store_value.new.keeper) files files) c.store_value.result) is (c.store_value.ensures.goes told files)
