use Rattle.std.proofs.Common.{◌≡◌, ap, refl, sym, subst, ◌∙◌, ◌≤◌, length, List, ℕ}
use Rattle.blob_store.specs.Keeping.{kept}
use Rattle.object_name.specs.Name.{max_size, name_of}
use Rattle.thunk_codec.specs.Card.{card_text}
use Rattle.thunk_codec.specs.Reference.{IsRef}
use Rattle.thunk_codec.specs.declared.reference.Ref.TheVariants.{Value}
use Rattle.build_plan.specs.StepContracts.{FaresKeeper, Goes, between}
use Rattle.build_plan.specs.Symbolic.{stored}
use Rattle.build_plan.proofs.CountsAddUp.{keeper-none}
use Rattle.build_plan.proofs.ObjectIsStored.{card-is_ref, named}
use Rattle.build_plan.proofs.WritesGrow.{grows-stored}
use Rattle.build_plan.proofs.WorkGoesOn.{cut-none, handed}
use Rattle.build_plan.proofs.stored.store_card.Goals as goal

pub returns-in_err-text-clause-goes : goal.returns-in_err-text-clause-goes
returns-in_err-text-clause-goes g c told files =
    handed (Goes (stored (card_text c.args.tool.now)) 0 (between (kept g.K.Keeper.store g.K.Keeper.writes c.args.keeper.now) (kept g.K.Keeper.store g.K.Keeper.writes c.args.keeper.now) files files)) _ _ c.from_residual.ensures
    (cut-none (stored (card_text c.args.tool.now)) _ _ files files refl refl (grows-stored (card_text c.args.tool.now)))

pub returns-in_err-text-clause-fares : goal.returns-in_err-text-clause-fares
returns-in_err-text-clause-fares g c = handed (FaresKeeper _ _ _ _ _ _) _ _ c.from_residual.ensures (keeper-none _ _ _ _ _ _ tt)

pub store_object-requires : goal.store_object-requires
store_object-requires g c = subst (λ (bytes : List ℕ). length bytes ≤ max_size) (sym (c.as_slice.ensures ∙ c.in_ok-text.ensures)) c.requires

pub returns-clause-goes : goal.returns-clause-goes
returns-clause-goes g c told files =
    subst (λ (bytes : List ℕ). Goes (stored bytes) 0 (between (kept g.K.Keeper.store g.K.Keeper.writes c.args.keeper.now) (kept g.K.Keeper.store g.K.Keeper.writes c.store_object.new.keeper) files files) c.store_object.result) (c.as_slice.ensures ∙ c.in_ok-text.ensures) (c.store_object.ensures.goes told files)

pub returns-clause-reference : goal.returns-clause-reference
returns-clause-reference g c =
    named (λ name. name ≡ name_of c.as_slice.result.now) (λ name. IsRef (Value name))
    (λ name is. card-is_ref c.args.tool.now name c.requires (is ∙ ap name_of (c.as_slice.ensures ∙ c.in_ok-text.ensures))) c.store_object.result c.store_object.ensures.named
