use Rattle.std.proofs.Common.{[], map, Ok, Err, List, ℕ, ◌++◌, ap, subst, sym}
use Rattle.blob_store.specs.Keeping.{kept}
use Rattle.file_tree.specs.Files.{filed_in}
use Rattle.file_tree.proofs.PublicLaws.{same_filed}
use Rattle.thunk_codec.specs.Fitting.{AreFit}
use Rattle.build_plan.specs.Fitting.{IsCardName, IsFitStage}
use Rattle.build_plan.specs.declared.plan.Source.{Source}
use Rattle.build_plan.specs.declared.gathered.Gathered.TheVariants.{Plain}
use Rattle.build_plan.specs.Applying.{sides}
use Rattle.build_plan.specs.StepContracts.{Goes, plain_or, stage_of}
use Rattle.build_plan.specs.Symbolic.{one_output, symbolic, thunk_made}
use Rattle.build_plan.specs.Way.{optional_input, taken}
use Rattle.build_plan.specs.declared.plan.Step.TheVariants.{Take}
use Rattle.build_plan.proofs.CountsAddUp.{fares-files, fares-none, fares-then, handed-fares}
use Rattle.build_plan.proofs.FilesAreFound.{finds-plain, goes-find, goes-read, goes-take}
use Rattle.build_plan.proofs.StepsInOrder.{run-step}
use Rattle.build_plan.proofs.WorkGoesOn.{handed}
use Rattle.build_plan.proofs.steps.take_step.Goals as goal

pub returns-in-Read-clause-goes : goal.returns-in-Read-clause-goes
returns-in-Read-clause-goes g c kept_told files_told = rw c.in-Read.is
    (goes-read (kept g.K.Keeper.store g.K.Keeper.writes c.args.keeper.now) (filed_in g.T.Tree.files g.T.Tree.changes c.args.tree.now) (filed_in g.T.Tree.files g.T.Tree.changes c.read_item.new.tree) (same_filed g.T.Tree.files g.T.Tree.changes c.args.tree.now c.read_item.new.tree (c.read_item.ensures.reads.same files_told) (c.read_item.ensures.reads.list files_told)) _ c.read_item.result (c.read_item.ensures.exact files_told))

pub returns-in-Read-clause-fares : goal.returns-in-Read-clause-fares
returns-in-Read-clause-fares g c = fares-files _ _ _ _ _ _ _ _ _ _ _ c.read_item.ensures.reads.fares

pub returns-in-Find-clause-goes : goal.returns-in-Find-clause-goes
returns-in-Find-clause-goes g c kept_told files_told = rw c.in-Find.is
    (goes-find (kept g.K.Keeper.store g.K.Keeper.writes c.args.keeper.now) (filed_in g.T.Tree.files g.T.Tree.changes c.args.tree.now) (filed_in g.T.Tree.files g.T.Tree.changes c.read_first.new.tree) (same_filed g.T.Tree.files g.T.Tree.changes c.args.tree.now c.read_first.new.tree (c.read_first.ensures.reads.same files_told) (c.read_first.ensures.reads.list files_told)) c.args.items.now c.in-Find.missing c.in-Find.places c.read_first.result
    (rw c.as_slice.ensures at (c.read_first.ensures.exact files_told)))

pub returns-in-Find-clause-fares : goal.returns-in-Find-clause-fares
returns-in-Find-clause-fares g c = fares-files _ _ _ _ _ _ _ _ _ _ _ c.read_first.ensures.reads.fares

pub returns-in_err-take_bytes-in-Take-clause-goes : goal.returns-in_err-take_bytes-in-Take-clause-goes
returns-in_err-take_bytes-in-Take-clause-goes g c kept_told files_told = rw c.in-Take.is
    (handed (Goes (taken symbolic c.args.items.now (Take c.in-Take.path)) 0 (sides (kept g.K.Keeper.store g.K.Keeper.writes) (filed_in g.T.Tree.files g.T.Tree.changes) c.args.keeper.now c.args.keeper.now c.args.tree.now c.take_bytes.new.tree)) _ c.in_err-take_bytes-in-Take.field-0.0 c.from_residual.ensures
    (goes-take (kept g.K.Keeper.store g.K.Keeper.writes c.args.keeper.now) (filed_in g.T.Tree.files g.T.Tree.changes c.args.tree.now) (filed_in g.T.Tree.files g.T.Tree.changes c.take_bytes.new.tree) (same_filed g.T.Tree.files g.T.Tree.changes c.args.tree.now c.take_bytes.new.tree (c.in_err-take_bytes-in-Take.ensures.reads.same files_told) (c.in_err-take_bytes-in-Take.ensures.reads.list files_told)) c.args.items.now c.in-Take.path (Err c.in_err-take_bytes-in-Take.field-0.0)
    (finds-plain _ c.in_err-take_bytes-in-Take.field-0.0 (c.in_err-take_bytes-in-Take.ensures.exact files_told))))

pub returns-in_err-take_bytes-in-Take-clause-fares : goal.returns-in_err-take_bytes-in-Take-clause-fares
returns-in_err-take_bytes-in-Take-clause-fares g c = handed-fares _ _ _ _ _ _ _ _ _ _ _ _ _ c.from_residual.ensures (fares-files _ _ _ _ _ _ _ _ _ _ _ c.in_err-take_bytes-in-Take.ensures.reads.fares)

pub returns-in_ok-take_bytes-in-Take-clause-fares : goal.returns-in_ok-take_bytes-in-Take-clause-fares
returns-in_ok-take_bytes-in-Take-clause-fares g c = fares-then _ _ _ _ _ _ _ _ _ _ _ _ _ _ _ (fares-files _ _ _ _ _ _ _ _ _ _ _ c.in_ok-take_bytes-in-Take.ensures.reads.fares) (fares-none _ _ _ _ _ _ _ _ _ _ tt)

pub returns-in_ok-take_bytes-in-Take-clause-goes : goal.returns-in_ok-take_bytes-in-Take-clause-goes
returns-in_ok-take_bytes-in-Take-clause-goes g c kept_told files_told = rw c.in-Take.is
    (goes-take (kept g.K.Keeper.store g.K.Keeper.writes c.args.keeper.now) (filed_in g.T.Tree.files g.T.Tree.changes c.args.tree.now) (filed_in g.T.Tree.files g.T.Tree.changes c.take_bytes.new.tree) (same_filed g.T.Tree.files g.T.Tree.changes c.args.tree.now c.take_bytes.new.tree (c.in_ok-take_bytes-in-Take.ensures.reads.same files_told) (c.in_ok-take_bytes-in-Take.ensures.reads.list files_told)) c.args.items.now c.in-Take.path (Ok (Plain c.in_ok-take_bytes-in-Take.field-0))
    (ap plain_or (c.in_ok-take_bytes-in-Take.ensures.exact files_told)))

pub run_tool-requires : goal.run_tool-requires
run_tool-requires g c =
    let fits : IsFitStage c.in-Run.stage = rw c.in-Run.is at c.requires.fits in
    record {
      items = c.requires.items;
      card = subst (λ (tool : List ℕ). IsCardName tool) (sym c.as_slice-in-Run.ensures) fits.card;
      fits = λ files. subst (λ (inputs : List (List ℕ × Source)). AreFit c.in-Run.stage.args [] (map (λ input. input.0) (inputs ++ optional_input files c.in-Run.stage.optional)) one_output) (sym c.as_slice-in-Run-2.ensures) (fits.parts files);
    }

pub returns-in-Run-clause-goes : goal.returns-in-Run-clause-goes
returns-in-Run-clause-goes g c kept_told files_told = rw c.in-Run.is
    (let stage = c.in-Run.stage in
    let s = sides (kept g.K.Keeper.store g.K.Keeper.writes) (filed_in g.T.Tree.files g.T.Tree.changes) c.args.keeper.now c.run_tool.new.keeper c.args.tree.now c.run_tool.new.tree in
    let files = g.T.Tree.files c.args.tree.now in
    run-step c.args.items.now stage (kept g.K.Keeper.store g.K.Keeper.writes c.args.keeper.now) (kept g.K.Keeper.store g.K.Keeper.writes c.run_tool.new.keeper) (filed_in g.T.Tree.files g.T.Tree.changes c.args.tree.now) (filed_in g.T.Tree.files g.T.Tree.changes c.run_tool.new.tree) c.run_tool.result
    (subst (λ (tool : List ℕ). Goes (thunk_made c.args.items.now (stage_of tool stage.args (stage.inputs ++ optional_input files stage.optional) stage.target)) 1 s c.run_tool.result) c.as_slice-in-Run.ensures
    (subst (λ (inputs : List (List ℕ × Source)). Goes (thunk_made c.args.items.now (stage_of c.as_slice-in-Run.result.now stage.args (inputs ++ optional_input files stage.optional) stage.target)) 1 s c.run_tool.result) c.as_slice-in-Run-2.ensures
    (c.run_tool.ensures.goes kept_told files_told stage.target))))

pub returns-in-Scan-clause-goes : goal.returns-in-Scan-clause-goes
returns-in-Scan-clause-goes g c kept_told files_told = rw c.in-Scan.is (c.run_scanning.ensures.goes kept_told files_told c.args.items.now)
