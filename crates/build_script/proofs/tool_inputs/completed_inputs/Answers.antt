use Rattle.std.proofs.Common.{◌++◌, subst}
use Rattle.file_tree.specs.Files.{Files}
use Rattle.build_plan.specs.Doing.{each}
use Rattle.build_plan.specs.Way.{optional_input}
use Rattle.build_script.specs.AtOnce.{input_bytes}
use Rattle.build_script.specs.WorkAtOnce.{Goes, behind, why_of}
use Rattle.build_script.proofs.CallsCounted.{handed, reads-as, reads-then}
use Rattle.build_script.proofs.ToolsAreRun.{all-stop, all-then}
use Rattle.build_script.proofs.tool_inputs.completed_inputs.Goals as goal

pub returns-in_err-read-clause-goes : goal.returns-in_err-read-clause-goes
returns-in_err-read-clause-goes g c told =
    let files = g.T.Tree.files c.args.tree.now in
    let more = optional_input files c.args.optional.now in
    let fault = c.in_err-read.field-0.0 in
    handed (Goes (each (input_bytes c.args.items.now) (c.args.inputs.now ++ more)) files) _ fault c.from_residual.ensures (all-stop c.args.items.now c.args.inputs.now more files (why_of fault) (c.in_err-read.ensures.goes told))

pub returns-in_err-read-clause-reads : goal.returns-in_err-read-clause-reads
returns-in_err-read-clause-reads g c = reads-as _ _ _ _ _ _ _ _ c.in_err-read.field-0.0 _ c.from_residual.ensures c.in_err-read.ensures.reads

pub returns-clause-goes : goal.returns-clause-goes
returns-clause-goes g c told =
    let files = g.T.Tree.files c.args.tree.now in
    let more = optional_input files c.args.optional.now in
    all-then c.args.items.now c.args.inputs.now more files c.in_ok-read.read c.with_optional.result (c.in_ok-read.ensures.goes told)
    (subst (λ (files : Files). Goes (behind (input_bytes c.args.items.now) c.in_ok-read.read (optional_input files c.args.optional.now)) files c.with_optional.result) (c.in_ok-read.ensures.reads.same told) (c.with_optional.ensures.goes told c.args.items.now))

pub returns-clause-reads : goal.returns-clause-reads
returns-clause-reads g c = reads-then _ _ _ _ _ _ _ _ _ _ c.in_ok-read.ensures.reads c.with_optional.ensures.reads
