use Rattle.std.proofs.Common.{[], ℕ, List, Ok, Err, ap, map, refl, sym, subst, ◌∙◌}
use Rattle.blob_store.specs.Keeping.{kept}
use Rattle.file_tree.specs.Files.{filed_in}
use Rattle.thunk_codec.specs.Fitting.{AreFit}
use Rattle.thunk_codec.specs.declared.reference.Ref.{Ref}
use Rattle.build_plan.specs.Applying.{sides}
use Rattle.build_plan.specs.Creating.{recipe_parts}
use Rattle.build_plan.specs.Doing.{each}
use Rattle.build_plan.specs.StepContracts.{Fares, Goes, between, recipe_thunk}
use Rattle.build_plan.specs.Symbolic.{input_ref, thunk_stored}
use Rattle.build_plan.specs.Way.{file_input}
use Rattle.build_plan.specs.declared.plan.Source.{Source}
use Rattle.build_plan.proofs.CountsAddUp.{fares-keeper, fares-none, fares-then, handed-fares}
use Rattle.build_plan.proofs.StepsInOrder.{scanned-paths}
use Rattle.build_plan.proofs.WritesGrow.{grows-bind, grows-inputs, grows-thunk_stored}
use Rattle.build_plan.proofs.WorkGoesOn.{cut-none, goes-bind, goes-then, handed}
use Rattle.build_plan.proofs.creating.create_thunk.Goals as goal

pub returns-in_err-inputs-clause-goes : goal.returns-in_err-inputs-clause-goes
returns-in_err-inputs-clause-goes g c kept_told files_told =
    let recipe = c.args.recipe.now in
    handed (Goes (recipe_thunk recipe c.args.function) 1 (sides (kept g.K.Keeper.store g.K.Keeper.writes) (filed_in g.T.Tree.files g.T.Tree.changes) c.args.keeper.now c.args.keeper.now c.args.tree.now c.args.tree.now)) _ _ c.from_residual.ensures
    (cut-none (recipe_thunk recipe c.args.function) _ _ _ _ refl refl
    (grows-bind (each (input_ref []) (map file_input recipe.inputs)) (λ inputs. thunk_stored (recipe_parts recipe c.args.function inputs)) (grows-inputs [] (map file_input recipe.inputs)) (λ inputs. grows-thunk_stored (recipe_parts recipe c.args.function inputs))))

pub returns-in_err-inputs-clause-fares : goal.returns-in_err-inputs-clause-fares
returns-in_err-inputs-clause-fares g c = handed (Fares _ _ _ _ _ _ _ _ _ _ _) _ _ c.from_residual.ensures (fares-none _ _ _ _ _ _ _ _ _ _ tt)

pub returns-in_err-refs-clause-goes : goal.returns-in_err-refs-clause-goes
returns-in_err-refs-clause-goes g c kept_told files_told =
    let inputs_are = c.as_slice-2.ensures ∙ c.in_ok-inputs.ensures ∙ ap (map file_input) c.as_slice.ensures in
    let recipe = c.args.recipe.now in
    let work = each (input_ref []) (map file_input recipe.inputs) in
    let next = λ (inputs : List (List ℕ × Ref)). thunk_stored (recipe_parts recipe c.args.function inputs) in
    let s = sides (kept g.K.Keeper.store g.K.Keeper.writes) (filed_in g.T.Tree.files g.T.Tree.changes) c.args.keeper.now c.input_refs.new.keeper c.args.tree.now c.input_refs.new.tree in
    handed (Goes (recipe_thunk recipe c.args.function) 1 s) _ c.in_err-refs.field-0.0 c.from_residual-in_err-refs.ensures
    (goes-bind work next 0 1 s c.in_err-refs.field-0.0 (λ inputs. grows-thunk_stored (recipe_parts recipe c.args.function inputs))
    (subst (λ (inputs : List (List ℕ × Source)). Goes (each (input_ref []) inputs) 0 s (Err c.in_err-refs.field-0.0)) inputs_are (c.in_err-refs.ensures.goes kept_told files_told)))

pub returns-in_err-refs-clause-fares : goal.returns-in_err-refs-clause-fares
returns-in_err-refs-clause-fares g c = handed-fares _ _ _ _ _ _ _ _ _ _ _ _ _ c.from_residual-in_err-refs.ensures c.in_err-refs.ensures.fares

pub store_thunk-requires : goal.store_thunk-requires
store_thunk-requires g c = record {
  fits =
      let inputs_are = c.as_slice-2.ensures ∙ c.in_ok-inputs.ensures ∙ ap (map file_input) c.as_slice.ensures in
      let paths = c.in_ok-refs.ensures.paths ∙ ap (λ (inputs : List (List ℕ × Source)). map (λ input. input.0) inputs) inputs_are ∙ scanned-paths c.args.recipe.now.inputs in
      subst (λ (paths : List (List ℕ)). AreFit c.args.recipe.now.args c.args.recipe.now.envs paths c.args.recipe.now.outputs) (sym paths) c.requires.fits.parts;
  function = c.requires.function;
  inputs = c.in_ok-refs.ensures.references;
}

pub returns-clause-goes : goal.returns-clause-goes
returns-clause-goes g c kept_told files_told =
    let inputs_are = c.as_slice-2.ensures ∙ c.in_ok-inputs.ensures ∙ ap (map file_input) c.as_slice.ensures in
    let recipe = c.args.recipe.now in
    let work = each (input_ref []) (map file_input recipe.inputs) in
    let next = λ (inputs : List (List ℕ × Ref)). thunk_stored (recipe_parts recipe c.args.function inputs) in
    let a = kept g.K.Keeper.store g.K.Keeper.writes c.args.keeper.now in
    let b = kept g.K.Keeper.store g.K.Keeper.writes c.input_refs.new.keeper in
    let d = kept g.K.Keeper.store g.K.Keeper.writes c.store_thunk.new.keeper in
    let f = filed_in g.T.Tree.files g.T.Tree.changes c.args.tree.now in
    let h = filed_in g.T.Tree.files g.T.Tree.changes c.input_refs.new.tree in
    goes-then work next c.in_ok-refs.refs 0 1 a b d f h h c.store_thunk.result
    (subst (λ (inputs : List (List ℕ × Source)). Goes (each (input_ref []) inputs) 0 (between a b f h) (Ok c.in_ok-refs.refs)) inputs_are (c.in_ok-refs.ensures.goes kept_told files_told))
    (c.store_thunk.ensures.goes kept_told h)

pub returns-clause-few : goal.returns-clause-few
returns-clause-few g c = c.store_thunk.ensures.few

pub returns-clause-fares : goal.returns-clause-fares
returns-clause-fares g c = fares-then _ _ _ _ _ _ _ _ _ _ _ _ _ _ _ c.in_ok-refs.ensures.fares (fares-keeper _ _ _ _ _ _ _ _ _ _ _ c.store_thunk.ensures.fares)
