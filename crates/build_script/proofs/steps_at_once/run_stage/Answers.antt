use Rattle.std.proofs.Common.{◌++◌, ℕ, List, Ok, subst}
use Rattle.sandbox_run.specs.Cards.{card_outcome}
use Rattle.build_plan.specs.Doing.{each}
use Rattle.build_plan.specs.Way.{optional_input, taken}
use Rattle.build_plan.specs.declared.plan.Source.{Source}
use Rattle.build_plan.specs.declared.plan.Step.TheVariants.{Run}
use Rattle.build_script.specs.AtOnce.{input_bytes, output_by}
use Rattle.build_script.specs.WorkAtOnce.{Finds, Goes, Stops, by_cards, job_of, why_of}
use Rattle.build_script.proofs.CallsCounted.{handed, reads-as, reads-pure}
use Rattle.build_script.proofs.ToolsAreRun.{stage-stop, stage-then}
use Rattle.build_script.proofs.steps_at_once.run_stage.Goals as goal

pub returns-in_err-inputs-clause-goes : goal.returns-in_err-inputs-clause-goes
returns-in_err-inputs-clause-goes g c told =
    let items = c.args.items.now in
    let stage = c.args.stage.now in
    let files = g.T.Tree.files c.args.tree.now in
    let fault = c.in_err-inputs.field-0.0 in
    handed (Goes (taken by_cards items (Run stage)) files) _ fault c.from_residual.ensures
    (stage-stop items stage files (why_of fault)
    (subst (λ (inputs : List (List ℕ × Source)). Stops (each (input_bytes items) (inputs ++ optional_input files stage.optional)) files (why_of fault)) c.as_slice.ensures (c.in_err-inputs.ensures.goes told)))

pub returns-in_err-inputs-clause-reads : goal.returns-in_err-inputs-clause-reads
returns-in_err-inputs-clause-reads g c = reads-as _ _ _ _ _ _ _ _ c.in_err-inputs.field-0.0 _ c.from_residual.ensures c.in_err-inputs.ensures.reads

pub returns-clause-goes : goal.returns-clause-goes
returns-clause-goes g c told =
    let items = c.args.items.now in
    let stage = c.args.stage.now in
    let files = g.T.Tree.files c.args.tree.now in
    let inputs = c.in_ok-inputs.inputs in
    stage-then items stage files inputs c.run_tool.result
    (subst (λ (sources : List (List ℕ × Source)). Goes (each (input_bytes items) (sources ++ optional_input files stage.optional)) files (Ok inputs)) c.as_slice.ensures (c.in_ok-inputs.ensures.goes told))
    (subst (λ (tool : List ℕ). Finds (output_by stage.target (card_outcome (job_of tool stage.args inputs))) c.run_tool.result) c.as_slice-2.ensures c.run_tool.ensures.exact)

pub returns-clause-reads : goal.returns-clause-reads
returns-clause-reads g c = reads-pure _ _ _ _ _ _ _ _ _ c.run_tool.ensures.pure c.in_ok-inputs.ensures.reads
