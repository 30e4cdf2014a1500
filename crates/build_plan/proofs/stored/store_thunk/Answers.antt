use Rattle.std.proofs.Common.{◌≡◌, ◌≤◌, ◌<◌, ◌^◌, ℕ, List, ap, length, refl, sym, subst, ◌∙◌}
use Rattle.blob_store.specs.Keeping.{kept}
use Rattle.object_name.specs.Name.{max_size, name_of}
use Rattle.thunk_codec.specs.Reference.{IsRef}
use Rattle.thunk_codec.specs.Thunk.{Parts, text_of}
use Rattle.thunk_codec.specs.declared.reference.Ref.TheVariants.{Out}
use Rattle.build_plan.specs.StepContracts.{FaresKeeper, Goes, between, parts_with}
use Rattle.build_plan.specs.Symbolic.{stored, thunk_stored}
use Rattle.build_plan.proofs.CountsAddUp.{keeper-none}
use Rattle.build_plan.proofs.ObjectIsStored.{few-outputs, goes-thunk, named, on-ok-of, thunk-is_ref}
use Rattle.build_plan.proofs.WritesGrow.{grows-thunk_stored}
use Rattle.build_plan.proofs.WorkGoesOn.{cut-none, handed}
use Rattle.build_plan.proofs.stored.store_thunk.Goals as goal

pub returns-in_err-thunk-clause-goes : goal.returns-in_err-thunk-clause-goes
returns-in_err-thunk-clause-goes g c told files =
    let work = thunk_stored (parts_with c.args.function c.args.args.now c.args.envs.now c.args.inputs c.args.outputs.now) in
    handed (Goes work 1 (between (kept g.K.Keeper.store g.K.Keeper.writes c.args.keeper.now) (kept g.K.Keeper.store g.K.Keeper.writes c.args.keeper.now) files files)) _ _ c.from_residual.ensures
    (cut-none work _ _ files files refl refl (grows-thunk_stored _))

pub returns-in_err-thunk-clause-fares : goal.returns-in_err-thunk-clause-fares
returns-in_err-thunk-clause-fares g c = handed (FaresKeeper _ _ _ _ _ _) _ _ c.from_residual.ensures (keeper-none _ _ _ _ _ _ tt)

pub returns-in_err-text-clause-goes : goal.returns-in_err-text-clause-goes
returns-in_err-text-clause-goes g c told files =
    let work = thunk_stored (parts_with c.args.function c.args.args.now c.args.envs.now c.args.inputs c.args.outputs.now) in
    handed (Goes work 1 (between (kept g.K.Keeper.store g.K.Keeper.writes c.args.keeper.now) (kept g.K.Keeper.store g.K.Keeper.writes c.args.keeper.now) files files)) _ _ c.from_residual-in_err-text.ensures
    (cut-none work _ _ files files refl refl (grows-thunk_stored _))

pub returns-in_err-text-clause-fares : goal.returns-in_err-text-clause-fares
returns-in_err-text-clause-fares g c = handed (FaresKeeper _ _ _ _ _ _) _ _ c.from_residual-in_err-text.ensures (keeper-none _ _ _ _ _ _ tt)

pub store_object-requires : goal.store_object-requires
store_object-requires g c = subst (λ (bytes : List ℕ). length bytes ≤ max_size) (sym (c.as_slice.ensures ∙ c.in_ok-text.ensures.text)) c.in_ok-text.ensures.thunk.rules.size

pub returns-clause-goes : goal.returns-clause-goes
returns-clause-goes g c told files =
    let parts = parts_with c.args.function c.args.args.now c.args.envs.now c.args.inputs c.args.outputs.now in
    let a = kept g.K.Keeper.store g.K.Keeper.writes c.args.keeper.now in
    let b = kept g.K.Keeper.store g.K.Keeper.writes c.store_object.new.keeper in
    goes-thunk parts a b files c.store_object.result
    (subst (λ (bytes : List ℕ). Goes (stored bytes) 0 (between a b files files) c.store_object.result) (c.as_slice.ensures ∙ c.in_ok-text.ensures.text ∙ ap text_of c.in_ok-thunk.ensures) (c.store_object.ensures.goes told files))

pub returns-clause-reference : goal.returns-clause-reference
returns-clause-reference g c =
    named (λ name. name ≡ name_of c.as_slice.result.now) (λ name. (index : ℕ) → index < 2 ^ 32 → IsRef (Out name index))
    (λ name is. thunk-is_ref c.in_ok-thunk.thunk name c.in_ok-text.ensures.thunk.rules.size (is ∙ ap name_of (c.as_slice.ensures ∙ c.in_ok-text.ensures.text))) c.store_object.result c.store_object.ensures.named

pub returns-clause-few : goal.returns-clause-few
returns-clause-few g c =
    on-ok-of c.store_object.result (subst (λ (t : Parts). length t.outputs ≤ 64) c.in_ok-thunk.ensures (few-outputs c.in_ok-thunk.thunk c.in_ok-text.ensures.thunk.rules))
