use Rattle.std.proofs.Common.{◌≡◌, arith, true, map, ℕ, List, ◌++◌, ◌∙◌, [], ap, subst, sym}
use Rattle.std.specs.List.{list_all}
use Rattle.thunk_codec.specs.Path.{is_path}
use Rattle.build_plan.specs.Fitting.{IsCardName}
use Rattle.blob_store.specs.Keeping.{kept}
use Rattle.file_tree.specs.Files.{filed_in}
use Rattle.file_tree.proofs.PublicLaws.{same_filed}
use Rattle.build_plan.specs.Applying.{sides}
use Rattle.build_plan.specs.StepContracts.{Fares, Goes, stage_of}
use Rattle.build_plan.specs.Symbolic.{symbolic, thunk_made}
use Rattle.build_plan.specs.Way.{file_input, taken}
use Rattle.build_plan.specs.declared.plan.Step.TheVariants.{Scan}
use Rattle.build_plan.proofs.CountsAddUp.{fares-files, fares-none, fares-then, handed-fares}
use Rattle.build_plan.proofs.StepsInOrder.{scanned-fits, scan-cut, scan-stop, scan-then}
use Rattle.build_plan.proofs.WorkGoesOn.{handed}
use Rattle.build_plan.proofs.stages.run_scanning.Goals as goal

pub returns-in_err-paths-clause-goes : goal.returns-in_err-paths-clause-goes
returns-in_err-paths-clause-goes g c kept_told files_told items =
    let same = same_filed g.T.Tree.files g.T.Tree.changes c.args.tree.now c.scanned.new.tree (c.in_err-paths.ensures.reads.same files_told) (c.in_err-paths.ensures.reads.list files_told) in
    handed (Goes (taken symbolic items (Scan c.args.scanning.now)) 1 (sides (kept g.K.Keeper.store g.K.Keeper.writes) (filed_in g.T.Tree.files g.T.Tree.changes) c.args.keeper.now c.args.keeper.now c.args.tree.now c.scanned.new.tree)) _ c.in_err-paths.field-0.0 c.from_residual.ensures
    (scan-stop items c.args.scanning.now (kept g.K.Keeper.store g.K.Keeper.writes c.args.keeper.now) (kept g.K.Keeper.store g.K.Keeper.writes c.args.keeper.now) (filed_in g.T.Tree.files g.T.Tree.changes c.args.tree.now) (filed_in g.T.Tree.files g.T.Tree.changes c.scanned.new.tree) (filed_in g.T.Tree.files g.T.Tree.changes c.scanned.new.tree) same c.in_err-paths.field-0.0 (c.in_err-paths.ensures.exact files_told))

pub returns-in_err-paths-clause-fares : goal.returns-in_err-paths-clause-fares
returns-in_err-paths-clause-fares g c = handed-fares _ _ _ _ _ _ _ _ _ _ _ _ _ c.from_residual.ensures (fares-files _ _ _ _ _ _ _ _ _ _ _ c.in_err-paths.ensures.reads.fares)

pub returns-in_err-inputs-clause-goes : goal.returns-in_err-inputs-clause-goes
returns-in_err-inputs-clause-goes g c kept_told files_told items =
    let same = same_filed g.T.Tree.files g.T.Tree.changes c.args.tree.now c.scanned.new.tree (c.in_ok-paths.ensures.reads.same files_told) (c.in_ok-paths.ensures.reads.list files_told) in
    handed (Goes (taken symbolic items (Scan c.args.scanning.now)) 1 (sides (kept g.K.Keeper.store g.K.Keeper.writes) (filed_in g.T.Tree.files g.T.Tree.changes) c.args.keeper.now c.args.keeper.now c.args.tree.now c.scanned.new.tree)) _ _ c.from_residual-in_err-inputs.ensures
    (scan-cut items c.args.scanning.now (kept g.K.Keeper.store g.K.Keeper.writes c.args.keeper.now) (kept g.K.Keeper.store g.K.Keeper.writes c.args.keeper.now) (filed_in g.T.Tree.files g.T.Tree.changes c.args.tree.now) (filed_in g.T.Tree.files g.T.Tree.changes c.scanned.new.tree) (filed_in g.T.Tree.files g.T.Tree.changes c.scanned.new.tree) same c.in_ok-paths.paths (c.in_ok-paths.ensures.exact files_told))

pub returns-in_err-inputs-clause-fares : goal.returns-in_err-inputs-clause-fares
returns-in_err-inputs-clause-fares g c =
    handed (Fares _ _ _ _ _ _ _ _ _ _ _) _ _ c.from_residual-in_err-inputs.ensures
    (fares-then _ _ _ _ _ _ _ _ _ _ _ _ _ _ _ (fares-files _ _ _ _ _ _ _ _ _ _ _ c.in_ok-paths.ensures.reads.fares) (fares-none _ _ _ _ _ _ _ _ _ _ tt))

pub run_tool-requires : goal.run_tool-requires
run_tool-requires g c = record {
  items = λ k d low. absurd (omega (arith, low));
  card = subst (λ (tool : List ℕ). IsCardName tool) (sym c.as_slice-3.ensures) c.requires.card;
  fits = λ files. scanned-fits c.args.scanning.now.args c.in_ok-paths.paths c.as_slice-4.result.now (c.as_slice-4.ensures ∙ c.in_ok-inputs.ensures ∙ ap (map file_input) c.as_slice-2.ensures)
      (c.requires.parts c.in_ok-paths.paths (subst (λ (paths : List (List ℕ)). list_all is_path paths ≡ true) c.as_slice.ensures c.look_at_paths.ensures) c.in_ok-paths.ensures.rising c.in_ok-paths.ensures.limit);
}

pub returns-clause-goes : goal.returns-clause-goes
returns-clause-goes g c kept_told files_told items =
    let same = same_filed g.T.Tree.files g.T.Tree.changes c.args.tree.now c.scanned.new.tree (c.in_ok-paths.ensures.reads.same files_told) (c.in_ok-paths.ensures.reads.list files_told) in
    scan-then items c.args.scanning.now (kept g.K.Keeper.store g.K.Keeper.writes c.args.keeper.now) (kept g.K.Keeper.store g.K.Keeper.writes c.run_tool.new.keeper) (filed_in g.T.Tree.files g.T.Tree.changes c.args.tree.now) (filed_in g.T.Tree.files g.T.Tree.changes c.scanned.new.tree) (filed_in g.T.Tree.files g.T.Tree.changes c.run_tool.new.tree) same c.in_ok-paths.paths c.as_slice-4.result.now c.run_tool.result (c.in_ok-paths.ensures.exact files_told)
    (c.as_slice-4.ensures ∙ c.in_ok-inputs.ensures ∙ ap (map file_input) c.as_slice-2.ensures)
    (subst (λ (tool : List ℕ). Goes (thunk_made [] (stage_of tool c.args.scanning.now.args (c.as_slice-4.result.now ++ []) c.args.scanning.now.target)) 1 (sides (kept g.K.Keeper.store g.K.Keeper.writes) (filed_in g.T.Tree.files g.T.Tree.changes) c.args.keeper.now c.run_tool.new.keeper c.scanned.new.tree c.run_tool.new.tree) c.run_tool.result) c.as_slice-3.ensures
    (c.run_tool.ensures.goes kept_told files_told c.args.scanning.now.target))

pub returns-clause-fares : goal.returns-clause-fares
returns-clause-fares g c = fares-then _ _ _ _ _ _ _ _ _ _ _ _ _ _ _ (fares-files _ _ _ _ _ _ _ _ _ _ _ c.in_ok-paths.ensures.reads.fares) c.run_tool.ensures.fares
