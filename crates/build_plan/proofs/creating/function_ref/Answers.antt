use Rattle.std.proofs.Common.{List, ℕ, Err, subst}
use Rattle.blob_store.specs.Keeping.{kept}
use Rattle.file_tree.specs.Files.{filed_in}
use Rattle.thunk_codec.specs.Card.{card_text}
use Rattle.thunk_codec.specs.declared.reference.Ref.TheVariants.{Value}
use Rattle.build_plan.specs.Applying.{sides}
use Rattle.build_plan.specs.Creating.{function_ref}
use Rattle.build_plan.specs.Doing.{give}
use Rattle.build_plan.specs.StepContracts.{Goes}
use Rattle.build_plan.specs.Symbolic.{stored}
use Rattle.build_plan.specs.declared.recipe.RecipeFunction.TheVariants.{Card}
use Rattle.build_plan.proofs.CountsAddUp.{fares-keeper, fares-none, fares-then, handed-keeper}
use Rattle.build_plan.proofs.WritesGrow.{grows-give}
use Rattle.build_plan.proofs.WorkGoesOn.{goes-bind, handed, leads-bind}
use Rattle.build_plan.proofs.creating.function_ref.Goals as goal

pub returns-in_err-card-in-Card-clause-goes : goal.returns-in_err-card-in-Card-clause-goes
returns-in_err-card-in-Card-clause-goes g c kept_told files_told = rw c.in-Card.is
    (let s = sides (kept g.K.Keeper.store g.K.Keeper.writes) (filed_in g.T.Tree.files g.T.Tree.changes) c.args.keeper.now c.store_card.new.keeper c.args.tree.now c.args.tree.now in
    handed (Goes (function_ref (Card c.in-Card.tool)) 0 s) _ c.in_err-card-in-Card.field-0.0 c.from_residual.ensures
    (goes-bind (stored (card_text c.in-Card.tool)) (λ card. give (Value card)) 0 0 s c.in_err-card-in-Card.field-0.0 (λ card. grows-give (Value card)) (subst (λ (tool : List ℕ). Goes (stored (card_text tool)) 0 s (Err c.in_err-card-in-Card.field-0.0)) c.as_slice.ensures (c.in_err-card-in-Card.ensures.goes kept_told (filed_in g.T.Tree.files g.T.Tree.changes c.args.tree.now)))))

pub returns-in_err-card-in-Card-clause-fares : goal.returns-in_err-card-in-Card-clause-fares
returns-in_err-card-in-Card-clause-fares g c = fares-keeper _ _ _ _ _ _ _ _ _ _ _ (handed-keeper _ _ _ _ _ _ _ _ c.from_residual.ensures c.in_err-card-in-Card.ensures.fares)

pub returns-in_ok-card-in-Card-clause-goes : goal.returns-in_ok-card-in-Card-clause-goes
returns-in_ok-card-in-Card-clause-goes g c kept_told files_told = rw c.in-Card.is
    (leads-bind (stored (card_text c.in-Card.tool)) (λ card. give (Value card)) c.in_ok-card-in-Card.card 0 _ (rw c.as_slice.ensures at (c.in_ok-card-in-Card.ensures.goes kept_told (filed_in g.T.Tree.files g.T.Tree.changes c.args.tree.now))))

pub returns-in_ok-card-in-Card-clause-fares : goal.returns-in_ok-card-in-Card-clause-fares
returns-in_ok-card-in-Card-clause-fares g c = fares-then _ _ _ _ _ _ _ _ _ _ _ _ _ _ _ (fares-keeper _ _ _ _ _ _ _ _ _ _ _ c.in_ok-card-in-Card.ensures.fares) (fares-none _ _ _ _ _ _ _ _ _ _ tt)

pub returns-in-File-clause-goes : goal.returns-in-File-clause-goes
returns-in-File-clause-goes g c kept_told files_told = rw c.in-File.is (c.file_ref.ensures.goes kept_told files_told)
