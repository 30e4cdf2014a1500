use Rattle.std.proofs.Common.{arith, ◌≡◌, ◌+◌, [], List, map, Ok, Err, sym, subst}
use Rattle.std.specs.Prelude.{min}
use Rattle.build_plan.specs.declared.gathered.Gathered.{Gathered}
use Rattle.build_plan.specs.declared.plan.Step.{Step}
use Rattle.build_plan.specs.declared.plan.Target.{Target}
use Rattle.build_plan.specs.StepContracts.{Changes, GoesSteps}
use Rattle.blob_store.specs.Keeping.{kept}
use Rattle.file_tree.specs.Files.{filed_in}
use Rattle.build_plan.specs.Applying.{Does, sides}
use Rattle.build_plan.proofs.CountsAddUp.{fares-files, fares-then, handed-fares, handed-files}
use Rattle.build_plan.proofs.WorkGoesOn.{handed}
use Rattle.build_plan.specs.Symbolic.{applied, begun, symbolic}
use Rattle.build_plan.specs.Way.{change_of, gathered}
use Rattle.build_plan.proofs.PlanIsDone.{applied-is, done-all, done-fault, done-some, plan_changes, plan_out}
use Rattle.build_plan.proofs.applying.apply_plan.Goals as goal

pub returns-in_err-thunks-clause-exact : goal.returns-in_err-thunks-clause-exact
returns-in_err-thunks-clause-exact g c kept_told files_told =
    let plan = c.args.plan.now in
    let s = sides (kept g.K.Keeper.store g.K.Keeper.writes) (filed_in g.T.Tree.files g.T.Tree.changes) c.args.keeper.now c.take_steps.new.keeper c.args.tree.now c.take_steps.new.tree in
    handed (Does (applied plan (begun (g.K.Keeper.store c.args.keeper.now) (g.T.Tree.files c.args.tree.now))) s) _ c.in_err-thunks.field-0.0 c.from_residual.ensures
    (subst (λ e. Does e s (Err c.in_err-thunks.field-0.0)) (sym (applied-is plan (begun (g.K.Keeper.store c.args.keeper.now) (g.T.Tree.files c.args.tree.now))))
    (done-fault (gathered symbolic plan.steps []) (plan_changes plan) (plan_out plan) s 0 c.in_err-thunks.field-0.0 (subst (λ (steps : List Step). GoesSteps steps c.take_steps.new.items s (Err c.in_err-thunks.field-0.0)) c.as_slice.ensures (c.in_err-thunks.ensures.goes kept_told files_told))))

pub returns-in_err-change_targets-clause-exact : goal.returns-in_err-change_targets-clause-exact
returns-in_err-change_targets-clause-exact g c kept_told files_told =
    let plan = c.args.plan.now in
    let items = c.take_steps.new.items in
    let a = kept g.K.Keeper.store g.K.Keeper.writes c.args.keeper.now in
    let b = kept g.K.Keeper.store g.K.Keeper.writes c.take_steps.new.keeper in
    let f = filed_in g.T.Tree.files g.T.Tree.changes c.args.tree.now in
    let g_ = filed_in g.T.Tree.files g.T.Tree.changes c.take_steps.new.tree in
    let h = filed_in g.T.Tree.files g.T.Tree.changes c.change_targets.new.tree in
    let s = sides (kept g.K.Keeper.store g.K.Keeper.writes) (filed_in g.T.Tree.files g.T.Tree.changes) c.args.keeper.now c.take_steps.new.keeper c.args.tree.now c.take_steps.new.tree in
    let taken = subst (λ (steps : List Step). GoesSteps steps items s (Ok c.in_ok-thunks.thunks)) c.as_slice.ensures (c.in_ok-thunks.ensures.goes kept_told files_told) in
    handed (Does (applied plan (begun (g.K.Keeper.store c.args.keeper.now) (g.T.Tree.files c.args.tree.now))) (sides (kept g.K.Keeper.store g.K.Keeper.writes) (filed_in g.T.Tree.files g.T.Tree.changes) c.args.keeper.now c.take_steps.new.keeper c.args.tree.now c.change_targets.new.tree)) _ c.in_err-change_targets.field-0.0 c.from_residual-in_err-change_targets.ensures
    (subst (λ e. Does e (sides (kept g.K.Keeper.store g.K.Keeper.writes) (filed_in g.T.Tree.files g.T.Tree.changes) c.args.keeper.now c.take_steps.new.keeper c.args.tree.now c.change_targets.new.tree) (Err c.in_err-change_targets.field-0.0)) (sym (applied-is plan (begun (g.K.Keeper.store c.args.keeper.now) (g.T.Tree.files c.args.tree.now))))
    (done-some (gathered symbolic plan.steps []) (plan_changes plan) (plan_out plan) a b f g_ h items taken.number taken.leads (Unit {0}) c.in_err-change_targets.field-0.0
    (subst (λ (targets : List Target). Changes {A = Unit {0}} (map (change_of symbolic items) targets) g_ h (Err c.in_err-change_targets.field-0.0)) c.as_slice-3.ensures
    (subst (λ (items : List Gathered). Changes {A = Unit {0}} (map (change_of symbolic items) c.as_slice-3.result.now) g_ h (Err c.in_err-change_targets.field-0.0)) c.as_slice-2.ensures (c.in_err-change_targets.ensures.changes files_told)))))

pub returns-clause-exact : goal.returns-clause-exact
returns-clause-exact g c kept_told files_told =
    let plan = c.args.plan.now in
    let items = c.take_steps.new.items in
    let a = kept g.K.Keeper.store g.K.Keeper.writes c.args.keeper.now in
    let b = kept g.K.Keeper.store g.K.Keeper.writes c.take_steps.new.keeper in
    let f = filed_in g.T.Tree.files g.T.Tree.changes c.args.tree.now in
    let g_ = filed_in g.T.Tree.files g.T.Tree.changes c.take_steps.new.tree in
    let h = filed_in g.T.Tree.files g.T.Tree.changes c.change_targets.new.tree in
    let s = sides (kept g.K.Keeper.store g.K.Keeper.writes) (filed_in g.T.Tree.files g.T.Tree.changes) c.args.keeper.now c.take_steps.new.keeper c.args.tree.now c.take_steps.new.tree in
    let taken = subst (λ (steps : List Step). GoesSteps steps items s (Ok c.in_ok-thunks.thunks)) c.as_slice.ensures (c.in_ok-thunks.ensures.goes kept_told files_told) in
    let is : c.in_ok-thunks.thunks ≡ min (0 + taken.number) 4294967295 = omega (arith, taken.counted) in
    subst (λ e. Does e (sides (kept g.K.Keeper.store g.K.Keeper.writes) (filed_in g.T.Tree.files g.T.Tree.changes) c.args.keeper.now c.take_steps.new.keeper c.args.tree.now c.change_targets.new.tree) (Ok c.in_ok-thunks.thunks)) (sym (applied-is plan (begun (g.K.Keeper.store c.args.keeper.now) (g.T.Tree.files c.args.tree.now))))
    (done-all (gathered symbolic plan.steps []) (plan_changes plan) (plan_out plan) a b f g_ h items taken.number taken.leads c.in_ok-thunks.thunks is
    (subst (λ (targets : List Target). Changes {A = Unit {0}} (map (change_of symbolic items) targets) g_ h (Ok tt)) c.as_slice-3.ensures
    (subst (λ (items : List Gathered). Changes {A = Unit {0}} (map (change_of symbolic items) c.as_slice-3.result.now) g_ h (Ok tt)) c.as_slice-2.ensures (c.in_ok-change_targets.ensures.changes files_told))))

pub returns-in_err-thunks-clause-clash : goal.returns-in_err-thunks-clause-clash
returns-in_err-thunks-clause-clash g c = (handed-fares _ _ _ _ _ _ _ _ _ _ _ _ _ c.from_residual.ensures c.in_err-thunks.ensures.fares).clash

pub returns-in_err-thunks-clause-kept_later : goal.returns-in_err-thunks-clause-kept_later
returns-in_err-thunks-clause-kept_later g c = (handed-fares _ _ _ _ _ _ _ _ _ _ _ _ _ c.from_residual.ensures c.in_err-thunks.ensures.fares).kept_later

pub returns-in_err-thunks-clause-files_later : goal.returns-in_err-thunks-clause-files_later
returns-in_err-thunks-clause-files_later g c = (handed-fares _ _ _ _ _ _ _ _ _ _ _ _ _ c.from_residual.ensures c.in_err-thunks.ensures.fares).files_later

pub returns-in_err-thunks-clause-cause : goal.returns-in_err-thunks-clause-cause
returns-in_err-thunks-clause-cause g c = (handed-fares _ _ _ _ _ _ _ _ _ _ _ _ _ c.from_residual.ensures c.in_err-thunks.ensures.fares).cause

pub returns-in_err-thunks-clause-kept_tries : goal.returns-in_err-thunks-clause-kept_tries
returns-in_err-thunks-clause-kept_tries g c = (handed-fares _ _ _ _ _ _ _ _ _ _ _ _ _ c.from_residual.ensures c.in_err-thunks.ensures.fares).kept_tries

pub returns-in_err-thunks-clause-file_tries : goal.returns-in_err-thunks-clause-file_tries
returns-in_err-thunks-clause-file_tries g c = (handed-fares _ _ _ _ _ _ _ _ _ _ _ _ _ c.from_residual.ensures c.in_err-thunks.ensures.fares).file_tries

pub returns-in_err-change_targets-clause-clash : goal.returns-in_err-change_targets-clause-clash
returns-in_err-change_targets-clause-clash g c = (fares-then _ _ _ _ _ _ _ _ _ _ _ _ _ _ _ c.in_ok-thunks.ensures.fares (fares-files _ _ _ _ _ _ _ _ _ _ _ (handed-files _ _ _ _ _ _ _ _ c.from_residual-in_err-change_targets.ensures c.in_err-change_targets.ensures.fares))).clash

pub returns-in_err-change_targets-clause-kept_later : goal.returns-in_err-change_targets-clause-kept_later
returns-in_err-change_targets-clause-kept_later g c = (fares-then _ _ _ _ _ _ _ _ _ _ _ _ _ _ _ c.in_ok-thunks.ensures.fares (fares-files _ _ _ _ _ _ _ _ _ _ _ (handed-files _ _ _ _ _ _ _ _ c.from_residual-in_err-change_targets.ensures c.in_err-change_targets.ensures.fares))).kept_later

pub returns-in_err-change_targets-clause-files_later : goal.returns-in_err-change_targets-clause-files_later
returns-in_err-change_targets-clause-files_later g c = (fares-then _ _ _ _ _ _ _ _ _ _ _ _ _ _ _ c.in_ok-thunks.ensures.fares (fares-files _ _ _ _ _ _ _ _ _ _ _ (handed-files _ _ _ _ _ _ _ _ c.from_residual-in_err-change_targets.ensures c.in_err-change_targets.ensures.fares))).files_later

pub returns-in_err-change_targets-clause-cause : goal.returns-in_err-change_targets-clause-cause
returns-in_err-change_targets-clause-cause g c = (fares-then _ _ _ _ _ _ _ _ _ _ _ _ _ _ _ c.in_ok-thunks.ensures.fares (fares-files _ _ _ _ _ _ _ _ _ _ _ (handed-files _ _ _ _ _ _ _ _ c.from_residual-in_err-change_targets.ensures c.in_err-change_targets.ensures.fares))).cause

pub returns-in_err-change_targets-clause-kept_tries : goal.returns-in_err-change_targets-clause-kept_tries
returns-in_err-change_targets-clause-kept_tries g c = (fares-then _ _ _ _ _ _ _ _ _ _ _ _ _ _ _ c.in_ok-thunks.ensures.fares (fares-files _ _ _ _ _ _ _ _ _ _ _ (handed-files _ _ _ _ _ _ _ _ c.from_residual-in_err-change_targets.ensures c.in_err-change_targets.ensures.fares))).kept_tries

pub returns-in_err-change_targets-clause-file_tries : goal.returns-in_err-change_targets-clause-file_tries
returns-in_err-change_targets-clause-file_tries g c = (fares-then _ _ _ _ _ _ _ _ _ _ _ _ _ _ _ c.in_ok-thunks.ensures.fares (fares-files _ _ _ _ _ _ _ _ _ _ _ (handed-files _ _ _ _ _ _ _ _ c.from_residual-in_err-change_targets.ensures c.in_err-change_targets.ensures.fares))).file_tries

pub returns-clause-clash : goal.returns-clause-clash
returns-clause-clash g c = (fares-then _ _ _ _ _ _ _ _ _ _ _ _ _ _ _ c.in_ok-thunks.ensures.fares (fares-files _ _ _ _ _ _ _ _ _ _ _ c.in_ok-change_targets.ensures.fares)).clash

pub returns-clause-kept_later : goal.returns-clause-kept_later
returns-clause-kept_later g c = (fares-then _ _ _ _ _ _ _ _ _ _ _ _ _ _ _ c.in_ok-thunks.ensures.fares (fares-files _ _ _ _ _ _ _ _ _ _ _ c.in_ok-change_targets.ensures.fares)).kept_later

pub returns-clause-files_later : goal.returns-clause-files_later
returns-clause-files_later g c = (fares-then _ _ _ _ _ _ _ _ _ _ _ _ _ _ _ c.in_ok-thunks.ensures.fares (fares-files _ _ _ _ _ _ _ _ _ _ _ c.in_ok-change_targets.ensures.fares)).files_later

pub returns-clause-cause : goal.returns-clause-cause
returns-clause-cause g c = (fares-then _ _ _ _ _ _ _ _ _ _ _ _ _ _ _ c.in_ok-thunks.ensures.fares (fares-files _ _ _ _ _ _ _ _ _ _ _ c.in_ok-change_targets.ensures.fares)).cause

pub returns-clause-kept_tries : goal.returns-clause-kept_tries
returns-clause-kept_tries g c = (fares-then _ _ _ _ _ _ _ _ _ _ _ _ _ _ _ c.in_ok-thunks.ensures.fares (fares-files _ _ _ _ _ _ _ _ _ _ _ c.in_ok-change_targets.ensures.fares)).kept_tries

pub returns-clause-file_tries : goal.returns-clause-file_tries
returns-clause-file_tries g c = (fares-then _ _ _ _ _ _ _ _ _ _ _ _ _ _ _ c.in_ok-thunks.ensures.fares (fares-files _ _ _ _ _ _ _ _ _ _ _ c.in_ok-change_targets.ensures.fares)).file_tries
