use Rattle.std.proofs.Common.{ℕ, List, [], map, Ok, subst}
use Rattle.sandbox_run.specs.Cards.{card_outcome}
use Rattle.file_tree.specs.Files.{Files}
use Rattle.build_plan.specs.Doing.{each}
use Rattle.build_plan.specs.Way.{file_input, taken}
use Rattle.build_plan.specs.declared.plan.Step.TheVariants.{Scan}
use Rattle.build_script.specs.AtOnce.{input_bytes, output_by}
use Rattle.build_script.specs.WorkAtOnce.{Finds, Goes, Stops, by_cards, job_of, why_of}
use Rattle.build_script.proofs.CallsCounted.{handed, reads-as, reads-pure, reads-then}
use Rattle.build_script.proofs.ToolsAreRun.{inputs-stop, scan-stop, scan-then}
use Rattle.build_script.proofs.steps_at_once.run_scanning.Goals as goal

pub returns-in_err-paths-clause-goes : goal.returns-in_err-paths-clause-goes
returns-in_err-paths-clause-goes g c told items =
    let files = g.T.Tree.files c.args.tree.now in
    let fault = c.in_err-paths.field-0.0 in
    handed (Goes (taken by_cards items (Scan c.args.scanning.now)) files) _ fault c.from_residual.ensures (scan-stop items c.args.scanning.now files (why_of fault) (c.in_err-paths.ensures.exact told))

pub returns-in_err-paths-clause-reads : goal.returns-in_err-paths-clause-reads
returns-in_err-paths-clause-reads g c = reads-as _ _ _ _ _ _ _ _ c.in_err-paths.field-0.0 _ c.from_residual.ensures c.in_err-paths.ensures.reads

pub returns-in_err-inputs-clause-goes : goal.returns-in_err-inputs-clause-goes
returns-in_err-inputs-clause-goes g c told items =
    let files = g.T.Tree.files c.args.tree.now in
    let paths = c.in_ok-paths.paths in
    let fault = c.in_err-inputs.field-0.0 in
    handed (Goes (taken by_cards items (Scan c.args.scanning.now)) files) _ fault c.from_residual-in_err-inputs.ensures
    (inputs-stop items c.args.scanning.now files c.requires paths (c.in_ok-paths.ensures.exact told) (why_of fault)
    (subst (λ (files : Files). Stops (each (input_bytes []) (map file_input paths)) files (why_of fault)) (c.in_ok-paths.ensures.reads.same told)
    (subst (λ (paths : List (List ℕ)). Stops (each (input_bytes []) (map file_input paths)) (g.T.Tree.files c.scanned.new.tree) (why_of fault)) c.as_slice.ensures (c.in_err-inputs.ensures.goes told))))

pub returns-in_err-inputs-clause-reads : goal.returns-in_err-inputs-clause-reads
returns-in_err-inputs-clause-reads g c = reads-then _ _ _ _ _ _ _ _ _ _ c.in_ok-paths.ensures.reads (reads-as _ _ _ _ _ _ _ _ c.in_err-inputs.field-0.0 _ c.from_residual-in_err-inputs.ensures c.in_err-inputs.ensures.reads)

pub returns-clause-goes : goal.returns-clause-goes
returns-clause-goes g c told items =
    let files = g.T.Tree.files c.args.tree.now in
    let s = c.args.scanning.now in
    let paths = c.in_ok-paths.paths in
    let inputs = c.in_ok-inputs.inputs in
    scan-then items s files c.requires paths (c.in_ok-paths.ensures.exact told) inputs c.run_tool.result
    (subst (λ (files : Files). Goes (each (input_bytes []) (map file_input paths)) files (Ok inputs)) (c.in_ok-paths.ensures.reads.same told)
    (subst (λ (paths : List (List ℕ)). Goes (each (input_bytes []) (map file_input paths)) (g.T.Tree.files c.scanned.new.tree) (Ok inputs)) c.as_slice.ensures (c.in_ok-inputs.ensures.goes told)))
    (subst (λ (tool : List ℕ). Finds (output_by s.target (card_outcome (job_of tool s.args inputs))) c.run_tool.result) c.as_slice-2.ensures c.run_tool.ensures.exact)

pub returns-clause-reads : goal.returns-clause-reads
returns-clause-reads g c = reads-pure _ _ _ _ _ _ _ _ _ c.run_tool.ensures.pure (reads-then _ _ _ _ _ _ _ _ _ _ c.in_ok-paths.ensures.reads c.in_ok-inputs.ensures.reads)
