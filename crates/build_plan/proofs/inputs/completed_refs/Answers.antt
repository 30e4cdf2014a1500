use Rattle.std.proofs.Common.{◌≡◌, ◌++◌, ℕ, List, map, Ok, Err, ap, subst}
use Rattle.blob_store.specs.Keeping.{kept}
use Rattle.file_tree.specs.Files.{Files, Filed, filed_in}
use Rattle.build_plan.specs.Applying.{sides}
use Rattle.build_plan.specs.Doing.{each}
use Rattle.build_plan.specs.Symbolic.{input_ref}
use Rattle.build_plan.specs.Way.{optional_input}
use Rattle.build_plan.specs.StepContracts.{AreCompleted, Goes, more_refs}
use Rattle.build_plan.proofs.CountsAddUp.{fares-none, fares-then, handed-fares}
use Rattle.build_plan.proofs.InputsInOrder.{all-inputs, all-stop}
use Rattle.build_plan.proofs.WorkGoesOn.{handed}
use Rattle.build_plan.proofs.inputs.completed_refs.Goals as goal

pub returns-in_err-refs-clause-goes : goal.returns-in_err-refs-clause-goes
returns-in_err-refs-clause-goes g c kept_told files_told =
    let others = (optional_input (g.T.Tree.files c.args.tree.now) c.args.optional.now) in
    handed (Goes (each (input_ref c.args.items.now) (c.args.inputs.now ++ others)) 0 (sides (kept g.K.Keeper.store g.K.Keeper.writes) (filed_in g.T.Tree.files g.T.Tree.changes) c.args.keeper.now c.input_refs.new.keeper c.args.tree.now c.input_refs.new.tree)) _ _ c.from_residual.ensures
    (all-stop c.args.items.now c.args.inputs.now others (kept g.K.Keeper.store g.K.Keeper.writes c.args.keeper.now) (kept g.K.Keeper.store g.K.Keeper.writes c.input_refs.new.keeper) (kept g.K.Keeper.store g.K.Keeper.writes c.input_refs.new.keeper) (filed_in g.T.Tree.files g.T.Tree.changes c.args.tree.now) (filed_in g.T.Tree.files g.T.Tree.changes c.input_refs.new.tree) (filed_in g.T.Tree.files g.T.Tree.changes c.input_refs.new.tree)
    c.in_err-refs.field-0.0 (c.in_err-refs.ensures.goes kept_told files_told))

pub returns-in_err-add_optional-clause-goes : goal.returns-in_err-add_optional-clause-goes
returns-in_err-add_optional-clause-goes g c kept_told files_told =
    let others = (optional_input (g.T.Tree.files c.args.tree.now) c.args.optional.now) in
    let first = c.in_ok-refs.ensures.goes kept_told files_told in
    let same : g.T.Tree.files c.input_refs.new.tree ≡ g.T.Tree.files c.args.tree.now = ap (λ (f : Filed). f.files) first.files in
    handed (Goes (each (input_ref c.args.items.now) (c.args.inputs.now ++ others)) 0 (sides (kept g.K.Keeper.store g.K.Keeper.writes) (filed_in g.T.Tree.files g.T.Tree.changes) c.args.keeper.now c.add_optional.new.keeper c.args.tree.now c.add_optional.new.tree)) _ c.in_err-add_optional.field-0.0 c.from_residual-in_err-add_optional.ensures
    (all-inputs c.args.items.now c.args.inputs.now others (kept g.K.Keeper.store g.K.Keeper.writes c.args.keeper.now) (kept g.K.Keeper.store g.K.Keeper.writes c.input_refs.new.keeper) (kept g.K.Keeper.store g.K.Keeper.writes c.add_optional.new.keeper) (filed_in g.T.Tree.files g.T.Tree.changes c.args.tree.now) (filed_in g.T.Tree.files g.T.Tree.changes c.input_refs.new.tree) (filed_in g.T.Tree.files g.T.Tree.changes c.add_optional.new.tree) c.in_ok-refs.refs (Err c.in_err-add_optional.field-0.0) first
    (subst (λ (files : Files). Goes (more_refs c.args.items.now c.in_ok-refs.refs (optional_input files c.args.optional.now)) 0 (sides (kept g.K.Keeper.store g.K.Keeper.writes) (filed_in g.T.Tree.files g.T.Tree.changes) c.input_refs.new.keeper c.add_optional.new.keeper c.input_refs.new.tree c.add_optional.new.tree) (Err c.in_err-add_optional.field-0.0)) same (c.in_err-add_optional.ensures.goes kept_told files_told c.args.items.now)))

pub returns-clause-goes : goal.returns-clause-goes
returns-clause-goes g c kept_told files_told =
    let others = (optional_input (g.T.Tree.files c.args.tree.now) c.args.optional.now) in
    let first = c.in_ok-refs.ensures.goes kept_told files_told in
    let same : g.T.Tree.files c.input_refs.new.tree ≡ g.T.Tree.files c.args.tree.now = ap (λ (f : Filed). f.files) first.files in
    all-inputs c.args.items.now c.args.inputs.now others (kept g.K.Keeper.store g.K.Keeper.writes c.args.keeper.now) (kept g.K.Keeper.store g.K.Keeper.writes c.input_refs.new.keeper) (kept g.K.Keeper.store g.K.Keeper.writes c.add_optional.new.keeper) (filed_in g.T.Tree.files g.T.Tree.changes c.args.tree.now) (filed_in g.T.Tree.files g.T.Tree.changes c.input_refs.new.tree) (filed_in g.T.Tree.files g.T.Tree.changes c.add_optional.new.tree) c.in_ok-refs.refs (Ok c.add_optional.new.refs) first
    (subst (λ (files : Files). Goes (more_refs c.args.items.now c.in_ok-refs.refs (optional_input files c.args.optional.now)) 0 (sides (kept g.K.Keeper.store g.K.Keeper.writes) (filed_in g.T.Tree.files g.T.Tree.changes) c.input_refs.new.keeper c.add_optional.new.keeper c.input_refs.new.tree c.add_optional.new.tree) (Ok c.add_optional.new.refs)) same (c.in_ok-add_optional.ensures.goes kept_told files_told c.args.items.now))

pub returns-clause-paths : goal.returns-clause-paths
returns-clause-paths g c =
    subst (λ (paths : List (List ℕ)). AreCompleted paths c.args.optional.now (map (λ input. input.0) c.add_optional.new.refs)) c.in_ok-refs.ensures.paths c.in_ok-add_optional.ensures.paths

pub returns-in_err-refs-clause-fares : goal.returns-in_err-refs-clause-fares
returns-in_err-refs-clause-fares g c = handed-fares _ _ _ _ _ _ _ _ _ _ _ _ _ c.from_residual.ensures c.in_err-refs.ensures.fares

pub returns-in_err-add_optional-clause-fares : goal.returns-in_err-add_optional-clause-fares
returns-in_err-add_optional-clause-fares g c = fares-then _ _ _ _ _ _ _ _ _ _ _ _ _ _ _ c.in_ok-refs.ensures.fares (handed-fares _ _ _ _ _ _ _ _ _ _ _ _ _ c.from_residual-in_err-add_optional.ensures c.in_err-add_optional.ensures.fares)

pub returns-clause-fares : goal.returns-clause-fares
returns-clause-fares g c = fares-then _ _ _ _ _ _ _ _ _ _ _ _ _ _ _ c.in_ok-refs.ensures.fares (fares-then _ _ _ _ _ _ _ _ _ _ _ _ _ _ _ c.in_ok-add_optional.ensures.fares (fares-none _ _ _ _ _ _ _ _ _ _ tt))
