use Rattle.std.proofs.Common.{arith, ◌≡◌, ◌++◌, ◌∷◌, ◌+◌, [], Ok, drop, refl, sym, subst, ◌∙◌}
use Rattle.file_tree.specs.Files.{Files}
use Rattle.build_plan.specs.Doing.{each}
use Rattle.build_plan.proofs.FilesAreFound.{last-drop, next-drop}
use Rattle.build_script.specs.AtOnce.{input_bytes, source_bytes}
use Rattle.build_script.specs.WorkAtOnce.{Goes, Leads, Stops, behind, why_of}
use Rattle.build_script.proofs.CallsCounted.{handed, reads-as, reads-as-none, reads-none, reads-then}
use Rattle.build_script.proofs.JobsAdded.{each-all, each-start}
use Rattle.build_script.proofs.ToolsAreRun.{reading-more, reading-stop}
use Rattle.build_script.proofs.tool_inputs.read_inputs.Goals as goal

pub inputs-init : goal.inputs-init
inputs-init g c = record {
  goes = λ told. subst (λ read. Leads (each (input_bytes c.args.items.now) c.args.inputs.now) (behind (input_bytes c.args.items.now) read c.args.inputs.now) (g.T.Tree.files c.args.tree.now)) (sym c.new-read.ensures) (each-start (input_bytes c.args.items.now) c.args.inputs.now (g.T.Tree.files c.args.tree.now));
  reads = reads-none _ _ _ _ _ _ _;
}

pub inputs-preserved : goal.inputs-preserved
inputs-preserved g c =
    let files = g.T.Tree.files c.args.tree.now in
    let input = c.inputs-item.result in
    let later = (drop (c.inputs.path-index + 1) c.args.inputs.now) in
    let pushed : c.push.new.self ≡ c.inputs.read ++ (input.0, c.in_ok-bytes.bytes) ∷ [] = c.in_ok-push.ensures.ok ∙ λ i. c.inputs.read ++ (c.in_ok-copy.ensures i, c.in_ok-bytes.bytes) ∷ [] in
    record {
      goes = λ told.
          subst (λ read. Leads (each (input_bytes c.args.items.now) c.args.inputs.now) (behind (input_bytes c.args.items.now) read later) files) (sym pushed)
          (reading-more c.args.items.now c.args.inputs.now later (drop c.inputs.path-index c.args.inputs.now) files c.inputs.read input c.in_ok-bytes.bytes (next-drop c.args.inputs.now c.inputs.path-index input c.inputs-test.true c.inputs-item.is) (c.inputs.invariant.goes told) (subst (λ (files : Files). Goes (source_bytes c.args.items.now input.1) files (Ok c.in_ok-bytes.bytes)) (c.inputs.invariant.reads.same told) (c.in_ok-bytes.ensures.goes told)));
      reads = reads-then _ _ _ _ _ _ _ _ _ _ c.inputs.invariant.reads c.in_ok-bytes.ensures.reads;
    }

pub returns-in_err-bytes-clause-goes : goal.returns-in_err-bytes-clause-goes
returns-in_err-bytes-clause-goes g c told =
    let files = g.T.Tree.files c.args.tree.now in
    let input = c.inputs-item.result in
    let later = (drop (c.inputs.path-index + 1) c.args.inputs.now) in
    let fault = c.in_err-bytes.field-0.0 in
    handed (Goes (each (input_bytes c.args.items.now) c.args.inputs.now) files) _ fault c.from_residual.ensures
    (reading-stop c.args.items.now c.args.inputs.now later (drop c.inputs.path-index c.args.inputs.now) files c.inputs.read input (why_of fault) (next-drop c.args.inputs.now c.inputs.path-index input c.inputs-test.true c.inputs-item.is) (c.inputs.invariant.goes told) (subst (λ (files : Files). Stops (source_bytes c.args.items.now input.1) files (why_of fault)) (c.inputs.invariant.reads.same told) (c.in_err-bytes.ensures.goes told)))

pub returns-in_err-bytes-clause-reads : goal.returns-in_err-bytes-clause-reads
returns-in_err-bytes-clause-reads g c = reads-then _ _ _ _ _ _ _ _ _ _ c.inputs.invariant.reads (reads-as _ _ _ _ _ _ _ _ c.in_err-bytes.field-0.0 _ c.from_residual.ensures c.in_err-bytes.ensures.reads)

pub returns-in_err-copy-clause-goes : goal.returns-in_err-copy-clause-goes
returns-in_err-copy-clause-goes g c told = handed (Goes (each (input_bytes c.args.items.now) c.args.inputs.now) (g.T.Tree.files c.args.tree.now)) _ _ c.from_residual-in_err-copy.ensures tt

pub returns-in_err-copy-clause-reads : goal.returns-in_err-copy-clause-reads
returns-in_err-copy-clause-reads g c = reads-as-none _ _ _ _ _ _ _ _ _ _ c.from_residual-in_err-copy.ensures refl (reads-then _ _ _ _ _ _ _ _ _ _ c.inputs.invariant.reads c.in_ok-bytes.ensures.reads)

pub returns-in_err-push-clause-goes : goal.returns-in_err-push-clause-goes
returns-in_err-push-clause-goes g c told = handed (Goes (each (input_bytes c.args.items.now) c.args.inputs.now) (g.T.Tree.files c.args.tree.now)) _ _ c.from_residual-in_err-push.ensures tt

pub returns-in_err-push-clause-reads : goal.returns-in_err-push-clause-reads
returns-in_err-push-clause-reads g c = reads-as-none _ _ _ _ _ _ _ _ _ _ c.from_residual-in_err-push.ensures refl (reads-then _ _ _ _ _ _ _ _ _ _ c.inputs.invariant.reads c.in_ok-bytes.ensures.reads)

pub returns-clause-goes : goal.returns-clause-goes
returns-clause-goes g c told =
    each-all (input_bytes c.args.items.now) c.args.inputs.now (drop c.inputs.path-index c.args.inputs.now) (g.T.Tree.files c.args.tree.now) c.inputs.read (c.inputs.invariant.goes told)
    (last-drop c.args.inputs.now c.inputs.path-index c.inputs-test.false (omega (arith, c.inputs.auto.path-index-end)))

pub returns-clause-reads : goal.returns-clause-reads
returns-clause-reads g c = c.inputs.invariant.reads
