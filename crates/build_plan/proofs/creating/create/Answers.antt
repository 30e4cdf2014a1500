use Rattle.std.proofs.Common.{Ok, Err, List, ℕ, refl, sym, subst}
use Rattle.blob_store.specs.Keeping.{kept}
use Rattle.file_tree.specs.Files.{filed_in}
use Rattle.build_plan.specs.Applying.{Does, sides}
use Rattle.build_plan.specs.Creating.{created, function_ref, placeholders}
use Rattle.build_plan.specs.StepContracts.{Changes, between, recipe_thunk}
use Rattle.build_plan.specs.Symbolic.{begun}
use Rattle.build_plan.proofs.CountsAddUp.{fares-files, fares-then, handed-fares, handed-files}
use Rattle.build_plan.proofs.PlanIsDone.{created-is, done-all, done-fault, done-some, grows-recipe, recipe_changes, recipe_out, recipe_work}
use Rattle.build_plan.proofs.WorkGoesOn.{goes-bind, goes-then, handed}
use Rattle.build_plan.proofs.creating.create.Goals as goal

pub returns-in_err-function-clause-exact : goal.returns-in_err-function-clause-exact
returns-in_err-function-clause-exact g c kept_told files_told =
    let recipe = c.args.recipe.now in
    let s = sides (kept g.K.Keeper.store g.K.Keeper.writes) (filed_in g.T.Tree.files g.T.Tree.changes) c.args.keeper.now c.function_ref.new.keeper c.args.tree.now c.function_ref.new.tree in
    handed (Does (created recipe (begun (g.K.Keeper.store c.args.keeper.now) (g.T.Tree.files c.args.tree.now))) s) _ c.in_err-function.field-0.0 c.from_residual.ensures
    (subst (λ e. Does e s (Err c.in_err-function.field-0.0)) (sym (created-is recipe (begun (g.K.Keeper.store c.args.keeper.now) (g.T.Tree.files c.args.tree.now))))
    (done-fault (recipe_work recipe) (recipe_changes recipe) (recipe_out recipe) s 0 c.in_err-function.field-0.0
    (goes-bind (function_ref recipe.function) (recipe_thunk recipe) 0 0 s c.in_err-function.field-0.0 (grows-recipe recipe) (c.in_err-function.ensures.goes kept_told files_told))))

pub returns-in_err-name-clause-exact : goal.returns-in_err-name-clause-exact
returns-in_err-name-clause-exact g c kept_told files_told =
    let recipe = c.args.recipe.now in
    let a = kept g.K.Keeper.store g.K.Keeper.writes c.args.keeper.now in
    let b = kept g.K.Keeper.store g.K.Keeper.writes c.function_ref.new.keeper in
    let d = kept g.K.Keeper.store g.K.Keeper.writes c.create_thunk.new.keeper in
    let f = filed_in g.T.Tree.files g.T.Tree.changes c.args.tree.now in
    let g_ = filed_in g.T.Tree.files g.T.Tree.changes c.function_ref.new.tree in
    let h = filed_in g.T.Tree.files g.T.Tree.changes c.create_thunk.new.tree in
    let s = between a d f h in
    handed (Does (created recipe (begun (g.K.Keeper.store c.args.keeper.now) (g.T.Tree.files c.args.tree.now))) s) _ c.in_err-name.field-0.0 c.from_residual-in_err-name.ensures
    (subst (λ e. Does e s (Err c.in_err-name.field-0.0)) (sym (created-is recipe (begun (g.K.Keeper.store c.args.keeper.now) (g.T.Tree.files c.args.tree.now))))
    (done-fault (recipe_work recipe) (recipe_changes recipe) (recipe_out recipe) s 1 c.in_err-name.field-0.0
    (goes-then (function_ref recipe.function) (recipe_thunk recipe) c.in_ok-function.function 0 1 a b d f g_ h (Err c.in_err-name.field-0.0) (c.in_ok-function.ensures.goes kept_told files_told) (c.in_err-name.ensures.goes kept_told files_told))))

pub returns-in_err-leave_placeholders-clause-exact : goal.returns-in_err-leave_placeholders-clause-exact
returns-in_err-leave_placeholders-clause-exact g c kept_told files_told =
    let recipe = c.args.recipe.now in
    let a = kept g.K.Keeper.store g.K.Keeper.writes c.args.keeper.now in
    let b = kept g.K.Keeper.store g.K.Keeper.writes c.function_ref.new.keeper in
    let d = kept g.K.Keeper.store g.K.Keeper.writes c.create_thunk.new.keeper in
    let f = filed_in g.T.Tree.files g.T.Tree.changes c.args.tree.now in
    let g_ = filed_in g.T.Tree.files g.T.Tree.changes c.function_ref.new.tree in
    let h = filed_in g.T.Tree.files g.T.Tree.changes c.create_thunk.new.tree in
    let thunk = goes-then (function_ref recipe.function) (recipe_thunk recipe) c.in_ok-function.function 0 1 a b d f g_ h (Ok c.in_ok-name.name) (c.in_ok-function.ensures.goes kept_told files_told) (c.in_ok-name.ensures.goes kept_told files_told) in
    let k = filed_in g.T.Tree.files g.T.Tree.changes c.leave_placeholders.new.tree in
    handed (Does (created recipe (begun (g.K.Keeper.store c.args.keeper.now) (g.T.Tree.files c.args.tree.now))) (between a d f k)) _ c.in_err-leave_placeholders.field-0.0 c.from_residual-in_err-leave_placeholders.ensures
    (subst (λ e. Does e (between a d f k) (Err c.in_err-leave_placeholders.field-0.0)) (sym (created-is recipe (begun (g.K.Keeper.store c.args.keeper.now) (g.T.Tree.files c.args.tree.now))))
    (done-some (recipe_work recipe) (recipe_changes recipe) (recipe_out recipe) a d f h k c.in_ok-name.name 1 thunk (Unit {0}) c.in_err-leave_placeholders.field-0.0
    (subst (λ (outputs : List (List ℕ)). Changes {A = Unit {0}} (placeholders c.in_ok-name.name 0 outputs) h k (Err c.in_err-leave_placeholders.field-0.0)) c.as_slice.ensures (c.in_err-leave_placeholders.ensures.changes files_told))))

pub returns-clause-exact : goal.returns-clause-exact
returns-clause-exact g c kept_told files_told =
    let recipe = c.args.recipe.now in
    let a = kept g.K.Keeper.store g.K.Keeper.writes c.args.keeper.now in
    let b = kept g.K.Keeper.store g.K.Keeper.writes c.function_ref.new.keeper in
    let d = kept g.K.Keeper.store g.K.Keeper.writes c.create_thunk.new.keeper in
    let f = filed_in g.T.Tree.files g.T.Tree.changes c.args.tree.now in
    let g_ = filed_in g.T.Tree.files g.T.Tree.changes c.function_ref.new.tree in
    let h = filed_in g.T.Tree.files g.T.Tree.changes c.create_thunk.new.tree in
    let thunk = goes-then (function_ref recipe.function) (recipe_thunk recipe) c.in_ok-function.function 0 1 a b d f g_ h (Ok c.in_ok-name.name) (c.in_ok-function.ensures.goes kept_told files_told) (c.in_ok-name.ensures.goes kept_told files_told) in
    let k = filed_in g.T.Tree.files g.T.Tree.changes c.leave_placeholders.new.tree in
    subst (λ e. Does e (between a d f k) (Ok c.in_ok-name.name)) (sym (created-is recipe (begun (g.K.Keeper.store c.args.keeper.now) (g.T.Tree.files c.args.tree.now))))
    (done-all (recipe_work recipe) (recipe_changes recipe) (recipe_out recipe) a d f h k c.in_ok-name.name 1 thunk c.in_ok-name.name refl
    (subst (λ (outputs : List (List ℕ)). Changes {A = Unit {0}} (placeholders c.in_ok-name.name 0 outputs) h k (Ok tt)) c.as_slice.ensures (c.in_ok-leave_placeholders.ensures.changes files_told)))

pub returns-in_err-function-clause-clash : goal.returns-in_err-function-clause-clash
returns-in_err-function-clause-clash g c = (handed-fares _ _ _ _ _ _ _ _ _ _ _ _ _ c.from_residual.ensures c.in_err-function.ensures.fares).clash

pub returns-in_err-function-clause-kept_later : goal.returns-in_err-function-clause-kept_later
returns-in_err-function-clause-kept_later g c = (handed-fares _ _ _ _ _ _ _ _ _ _ _ _ _ c.from_residual.ensures c.in_err-function.ensures.fares).kept_later

pub returns-in_err-function-clause-files_later : goal.returns-in_err-function-clause-files_later
returns-in_err-function-clause-files_later g c = (handed-fares _ _ _ _ _ _ _ _ _ _ _ _ _ c.from_residual.ensures c.in_err-function.ensures.fares).files_later

pub returns-in_err-function-clause-cause : goal.returns-in_err-function-clause-cause
returns-in_err-function-clause-cause g c = (handed-fares _ _ _ _ _ _ _ _ _ _ _ _ _ c.from_residual.ensures c.in_err-function.ensures.fares).cause

pub returns-in_err-function-clause-kept_tries : goal.returns-in_err-function-clause-kept_tries
returns-in_err-function-clause-kept_tries g c = (handed-fares _ _ _ _ _ _ _ _ _ _ _ _ _ c.from_residual.ensures c.in_err-function.ensures.fares).kept_tries

pub returns-in_err-function-clause-file_tries : goal.returns-in_err-function-clause-file_tries
returns-in_err-function-clause-file_tries g c = (handed-fares _ _ _ _ _ _ _ _ _ _ _ _ _ c.from_residual.ensures c.in_err-function.ensures.fares).file_tries

pub returns-in_err-name-clause-clash : goal.returns-in_err-name-clause-clash
returns-in_err-name-clause-clash g c = (fares-then _ _ _ _ _ _ _ _ _ _ _ _ _ _ _ c.in_ok-function.ensures.fares (handed-fares _ _ _ _ _ _ _ _ _ _ _ _ _ c.from_residual-in_err-name.ensures c.in_err-name.ensures.fares)).clash

pub returns-in_err-name-clause-kept_later : goal.returns-in_err-name-clause-kept_later
returns-in_err-name-clause-kept_later g c = (fares-then _ _ _ _ _ _ _ _ _ _ _ _ _ _ _ c.in_ok-function.ensures.fares (handed-fares _ _ _ _ _ _ _ _ _ _ _ _ _ c.from_residual-in_err-name.ensures c.in_err-name.ensures.fares)).kept_later

pub returns-in_err-name-clause-files_later : goal.returns-in_err-name-clause-files_later
returns-in_err-name-clause-files_later g c = (fares-then _ _ _ _ _ _ _ _ _ _ _ _ _ _ _ c.in_ok-function.ensures.fares (handed-fares _ _ _ _ _ _ _ _ _ _ _ _ _ c.from_residual-in_err-name.ensures c.in_err-name.ensures.fares)).files_later

pub returns-in_err-name-clause-cause : goal.returns-in_err-name-clause-cause
returns-in_err-name-clause-cause g c = (fares-then _ _ _ _ _ _ _ _ _ _ _ _ _ _ _ c.in_ok-function.ensures.fares (handed-fares _ _ _ _ _ _ _ _ _ _ _ _ _ c.from_residual-in_err-name.ensures c.in_err-name.ensures.fares)).cause

pub returns-in_err-name-clause-kept_tries : goal.returns-in_err-name-clause-kept_tries
returns-in_err-name-clause-kept_tries g c = (fares-then _ _ _ _ _ _ _ _ _ _ _ _ _ _ _ c.in_ok-function.ensures.fares (handed-fares _ _ _ _ _ _ _ _ _ _ _ _ _ c.from_residual-in_err-name.ensures c.in_err-name.ensures.fares)).kept_tries

pub returns-in_err-name-clause-file_tries : goal.returns-in_err-name-clause-file_tries
returns-in_err-name-clause-file_tries g c = (fares-then _ _ _ _ _ _ _ _ _ _ _ _ _ _ _ c.in_ok-function.ensures.fares (handed-fares _ _ _ _ _ _ _ _ _ _ _ _ _ c.from_residual-in_err-name.ensures c.in_err-name.ensures.fares)).file_tries

pub returns-in_err-leave_placeholders-clause-clash : goal.returns-in_err-leave_placeholders-clause-clash
returns-in_err-leave_placeholders-clause-clash g c = (fares-then _ _ _ _ _ _ _ _ _ _ _ _ _ _ _ c.in_ok-function.ensures.fares (fares-then _ _ _ _ _ _ _ _ _ _ _ _ _ _ _ c.in_ok-name.ensures.fares (fares-files _ _ _ _ _ _ _ _ _ _ _ (handed-files _ _ _ _ _ _ _ _ c.from_residual-in_err-leave_placeholders.ensures c.in_err-leave_placeholders.ensures.fares)))).clash

pub returns-in_err-leave_placeholders-clause-kept_later : goal.returns-in_err-leave_placeholders-clause-kept_later
returns-in_err-leave_placeholders-clause-kept_later g c = (fares-then _ _ _ _ _ _ _ _ _ _ _ _ _ _ _ c.in_ok-function.ensures.fares (fares-then _ _ _ _ _ _ _ _ _ _ _ _ _ _ _ c.in_ok-name.ensures.fares (fares-files _ _ _ _ _ _ _ _ _ _ _ (handed-files _ _ _ _ _ _ _ _ c.from_residual-in_err-leave_placeholders.ensures c.in_err-leave_placeholders.ensures.fares)))).kept_later

pub returns-in_err-leave_placeholders-clause-files_later : goal.returns-in_err-leave_placeholders-clause-files_later
returns-in_err-leave_placeholders-clause-files_later g c = (fares-then _ _ _ _ _ _ _ _ _ _ _ _ _ _ _ c.in_ok-function.ensures.fares (fares-then _ _ _ _ _ _ _ _ _ _ _ _ _ _ _ c.in_ok-name.ensures.fares (fares-files _ _ _ _ _ _ _ _ _ _ _ (handed-files _ _ _ _ _ _ _ _ c.from_residual-in_err-leave_placeholders.ensures c.in_err-leave_placeholders.ensures.fares)))).files_later

pub returns-in_err-leave_placeholders-clause-cause : goal.returns-in_err-leave_placeholders-clause-cause
returns-in_err-leave_placeholders-clause-cause g c = (fares-then _ _ _ _ _ _ _ _ _ _ _ _ _ _ _ c.in_ok-function.ensures.fares (fares-then _ _ _ _ _ _ _ _ _ _ _ _ _ _ _ c.in_ok-name.ensures.fares (fares-files _ _ _ _ _ _ _ _ _ _ _ (handed-files _ _ _ _ _ _ _ _ c.from_residual-in_err-leave_placeholders.ensures c.in_err-leave_placeholders.ensures.fares)))).cause

pub returns-in_err-leave_placeholders-clause-kept_tries : goal.returns-in_err-leave_placeholders-clause-kept_tries
returns-in_err-leave_placeholders-clause-kept_tries g c = (fares-then _ _ _ _ _ _ _ _ _ _ _ _ _ _ _ c.in_ok-function.ensures.fares (fares-then _ _ _ _ _ _ _ _ _ _ _ _ _ _ _ c.in_ok-name.ensures.fares (fares-files _ _ _ _ _ _ _ _ _ _ _ (handed-files _ _ _ _ _ _ _ _ c.from_residual-in_err-leave_placeholders.ensures c.in_err-leave_placeholders.ensures.fares)))).kept_tries

pub returns-in_err-leave_placeholders-clause-file_tries : goal.returns-in_err-leave_placeholders-clause-file_tries
returns-in_err-leave_placeholders-clause-file_tries g c = (fares-then _ _ _ _ _ _ _ _ _ _ _ _ _ _ _ c.in_ok-function.ensures.fares (fares-then _ _ _ _ _ _ _ _ _ _ _ _ _ _ _ c.in_ok-name.ensures.fares (fares-files _ _ _ _ _ _ _ _ _ _ _ (handed-files _ _ _ _ _ _ _ _ c.from_residual-in_err-leave_placeholders.ensures c.in_err-leave_placeholders.ensures.fares)))).file_tries

pub returns-clause-clash : goal.returns-clause-clash
returns-clause-clash g c = (fares-then _ _ _ _ _ _ _ _ _ _ _ _ _ _ _ c.in_ok-function.ensures.fares (fares-then _ _ _ _ _ _ _ _ _ _ _ _ _ _ _ c.in_ok-name.ensures.fares (fares-files _ _ _ _ _ _ _ _ _ _ _ c.in_ok-leave_placeholders.ensures.fares))).clash

pub returns-clause-kept_later : goal.returns-clause-kept_later
returns-clause-kept_later g c = (fares-then _ _ _ _ _ _ _ _ _ _ _ _ _ _ _ c.in_ok-function.ensures.fares (fares-then _ _ _ _ _ _ _ _ _ _ _ _ _ _ _ c.in_ok-name.ensures.fares (fares-files _ _ _ _ _ _ _ _ _ _ _ c.in_ok-leave_placeholders.ensures.fares))).kept_later

pub returns-clause-files_later : goal.returns-clause-files_later
returns-clause-files_later g c = (fares-then _ _ _ _ _ _ _ _ _ _ _ _ _ _ _ c.in_ok-function.ensures.fares (fares-then _ _ _ _ _ _ _ _ _ _ _ _ _ _ _ c.in_ok-name.ensures.fares (fares-files _ _ _ _ _ _ _ _ _ _ _ c.in_ok-leave_placeholders.ensures.fares))).files_later

pub returns-clause-cause : goal.returns-clause-cause
returns-clause-cause g c = (fares-then _ _ _ _ _ _ _ _ _ _ _ _ _ _ _ c.in_ok-function.ensures.fares (fares-then _ _ _ _ _ _ _ _ _ _ _ _ _ _ _ c.in_ok-name.ensures.fares (fares-files _ _ _ _ _ _ _ _ _ _ _ c.in_ok-leave_placeholders.ensures.fares))).cause

pub returns-clause-kept_tries : goal.returns-clause-kept_tries
returns-clause-kept_tries g c = (fares-then _ _ _ _ _ _ _ _ _ _ _ _ _ _ _ c.in_ok-function.ensures.fares (fares-then _ _ _ _ _ _ _ _ _ _ _ _ _ _ _ c.in_ok-name.ensures.fares (fares-files _ _ _ _ _ _ _ _ _ _ _ c.in_ok-leave_placeholders.ensures.fares))).kept_tries

pub returns-clause-file_tries : goal.returns-clause-file_tries
returns-clause-file_tries g c = (fares-then _ _ _ _ _ _ _ _ _ _ _ _ _ _ _ c.in_ok-function.ensures.fares (fares-then _ _ _ _ _ _ _ _ _ _ _ _ _ _ _ c.in_ok-name.ensures.fares (fares-files _ _ _ _ _ _ _ _ _ _ _ c.in_ok-leave_placeholders.ensures.fares))).file_tries
