use Rattle.std.proofs.Common.{Ok, Some, ap, refl, sym, subst, ◌∙◌}
use Rattle.build_plan.specs.Way.{optional_input}
use Rattle.build_script.specs.AtOnce.{input_bytes}
use Rattle.build_script.specs.WorkAtOnce.{Goes, behind, why_of}
use Rattle.build_script.proofs.CallsCounted.{handed, reads-as, reads-as-none}
use Rattle.build_script.proofs.ToolsAreRun.{optional-none, optional-some, optional-stop}
use Rattle.build_script.proofs.tool_inputs.with_file.Goals as goal

pub returns-in_err-bytes-clause-goes : goal.returns-in_err-bytes-clause-goes
returns-in_err-bytes-clause-goes g c told items =
    let files = g.T.Tree.files c.args.tree.now in
    let fault = c.in_err-bytes.field-0.0 in
    handed (Goes (behind (input_bytes items) c.args.read (optional_input files (Some (c.args.place.now, c.args.path.now)))) files) _ fault c.from_residual.ensures
    (optional-stop files items c.args.read c.args.place.now c.args.path.now (why_of fault) (c.in_err-bytes.ensures.exact told))

pub returns-in_err-bytes-clause-reads : goal.returns-in_err-bytes-clause-reads
returns-in_err-bytes-clause-reads g c = reads-as _ _ _ _ _ _ _ _ c.in_err-bytes.field-0.0 _ c.from_residual.ensures c.in_err-bytes.ensures.reads

pub returns-in_err-with_input-in-Some-clause-goes : goal.returns-in_err-with_input-in-Some-clause-goes
returns-in_err-with_input-in-Some-clause-goes g c told items =
    let files = g.T.Tree.files c.args.tree.now in
    handed (Goes (behind (input_bytes items) c.args.read (optional_input files (Some (c.args.place.now, c.args.path.now)))) files) _ _ c.from_residual-in_err-with_input-in-Some.ensures tt

pub returns-in_err-with_input-in-Some-clause-reads : goal.returns-in_err-with_input-in-Some-clause-reads
returns-in_err-with_input-in-Some-clause-reads g c = reads-as-none _ _ _ _ _ _ _ _ _ _ c.from_residual-in_err-with_input-in-Some.ensures refl c.in_ok-bytes.ensures.reads

pub returns-in_ok-with_input-in-Some-clause-goes : goal.returns-in_ok-with_input-in-Some-clause-goes
returns-in_ok-with_input-in-Some-clause-goes g c told items =
    let files = g.T.Tree.files c.args.tree.now in
    subst (λ more. Goes (behind (input_bytes items) c.args.read (optional_input files (Some (c.args.place.now, c.args.path.now)))) files (Ok more)) (sym c.in_ok-with_input-in-Some.ensures)
    (optional-some files items c.args.read c.args.place.now c.args.path.now c.in-Some.bytes (c.in_ok-bytes.ensures.exact told ∙ ap (λ found. Ok found) c.in-Some.is))

pub returns-in_ok-with_input-in-Some-clause-reads : goal.returns-in_ok-with_input-in-Some-clause-reads
returns-in_ok-with_input-in-Some-clause-reads g c = c.in_ok-bytes.ensures.reads

pub returns-in-None-clause-goes : goal.returns-in-None-clause-goes
returns-in-None-clause-goes g c told items =
    optional-none (g.T.Tree.files c.args.tree.now) items c.args.read c.args.place.now c.args.path.now (c.in_ok-bytes.ensures.exact told ∙ ap (λ found. Ok found) c.in-None.is)

pub returns-in-None-clause-reads : goal.returns-in-None-clause-reads
returns-in-None-clause-reads g c = c.in_ok-bytes.ensures.reads
