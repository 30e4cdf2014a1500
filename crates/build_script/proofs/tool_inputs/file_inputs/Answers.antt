use Rattle.std.proofs.Common.{arith, ◌≡◌, ◌++◌, ◌∷◌, ◌+◌, [], Ok, ap, drop, map, refl, sym, subst, ◌∙◌}
use Rattle.file_tree.specs.Files.{Files}
use Rattle.build_plan.specs.Doing.{each}
use Rattle.build_plan.specs.Way.{file_input}
use Rattle.build_plan.proofs.FilesAreFound.{last-drop}
use Rattle.build_script.specs.AtOnce.{bytes_of, input_bytes}
use Rattle.build_script.specs.WorkAtOnce.{Goes, IsStopped, Leads, behind, why_of}
use Rattle.file_tree.specs.Files.{file_read}
use Rattle.build_script.proofs.BytesAreFound.{goes-read, stops-read}
use Rattle.build_script.proofs.CallsCounted.{handed, reads-as, reads-as-none, reads-none, reads-then}
use Rattle.build_script.proofs.JobsAdded.{each-all, each-start}
use Rattle.build_script.proofs.ToolsAreRun.{map-drop, reading-more, reading-stop}
use Rattle.build_script.proofs.tool_inputs.file_inputs.Goals as goal

pub paths-init : goal.paths-init
paths-init g c = record {
  goes = λ told. subst (λ read. Leads (each (input_bytes []) (map file_input c.args.paths.now)) (behind (input_bytes []) read (map file_input c.args.paths.now)) (g.T.Tree.files c.args.tree.now)) (sym c.new-read.ensures) (each-start (input_bytes []) (map file_input c.args.paths.now) (g.T.Tree.files c.args.tree.now));
  reads = reads-none _ _ _ _ _ _ _;
}

pub paths-preserved : goal.paths-preserved
paths-preserved g c =
    let files = g.T.Tree.files c.args.tree.now in
    let input = file_input c.path-item.result in
    let later = (map file_input (drop (c.paths.path-index + 1) c.args.paths.now)) in
    let pushed : c.push.new.self ≡ c.paths.read ++ (input.0, c.in_ok-bytes.bytes) ∷ [] = c.in_ok-push.ensures.ok ∙ λ i. c.paths.read ++ (c.in_ok-copy.ensures i, c.in_ok-bytes.bytes) ∷ [] in
    record {
      goes = λ told.
          subst (λ read. Leads (each (input_bytes []) (map file_input c.args.paths.now)) (behind (input_bytes []) read later) files) (sym pushed)
          (reading-more [] (map file_input c.args.paths.now) later (map file_input (drop c.paths.path-index c.args.paths.now)) files c.paths.read input c.in_ok-bytes.bytes (map-drop file_input c.args.paths.now c.paths.path-index c.path-item.result c.paths-test.true c.path-item.is) (c.paths.invariant.goes told) (goes-read files input.0 (Ok c.in_ok-bytes.bytes) (subst (λ (files : Files). bytes_of input.0 (file_read (files input.0)) ≡ Ok c.in_ok-bytes.bytes) (c.paths.invariant.reads.same told) (c.in_ok-bytes.ensures.exact told))));
      reads = reads-then _ _ _ _ _ _ _ _ _ _ c.paths.invariant.reads c.in_ok-bytes.ensures.reads;
    }

pub returns-in_err-bytes-clause-goes : goal.returns-in_err-bytes-clause-goes
returns-in_err-bytes-clause-goes g c told =
    let files = g.T.Tree.files c.args.tree.now in
    let input = file_input c.path-item.result in
    let later = (map file_input (drop (c.paths.path-index + 1) c.args.paths.now)) in
    let fault = c.in_err-bytes.field-0.0 in
    handed (Goes (each (input_bytes []) (map file_input c.args.paths.now)) files) _ fault c.from_residual.ensures
    (reading-stop [] (map file_input c.args.paths.now) later (map file_input (drop c.paths.path-index c.args.paths.now)) files c.paths.read input (why_of fault) (map-drop file_input c.args.paths.now c.paths.path-index c.path-item.result c.paths-test.true c.path-item.is) (c.paths.invariant.goes told) (stops-read files input.0 (why_of fault) (subst (λ (files : Files). IsStopped (bytes_of input.0 (file_read (files input.0))) (why_of fault)) (c.paths.invariant.reads.same told) (c.in_err-bytes.ensures.exact told))))

pub returns-in_err-bytes-clause-reads : goal.returns-in_err-bytes-clause-reads
returns-in_err-bytes-clause-reads g c = reads-then _ _ _ _ _ _ _ _ _ _ c.paths.invariant.reads (reads-as _ _ _ _ _ _ _ _ c.in_err-bytes.field-0.0 _ c.from_residual.ensures c.in_err-bytes.ensures.reads)

pub returns-in_err-copy-clause-goes : goal.returns-in_err-copy-clause-goes
returns-in_err-copy-clause-goes g c told = handed (Goes (each (input_bytes []) (map file_input c.args.paths.now)) (g.T.Tree.files c.args.tree.now)) _ _ c.from_residual-in_err-copy.ensures tt

pub returns-in_err-copy-clause-reads : goal.returns-in_err-copy-clause-reads
returns-in_err-copy-clause-reads g c = reads-as-none _ _ _ _ _ _ _ _ _ _ c.from_residual-in_err-copy.ensures refl (reads-then _ _ _ _ _ _ _ _ _ _ c.paths.invariant.reads c.in_ok-bytes.ensures.reads)

pub returns-in_err-push-clause-goes : goal.returns-in_err-push-clause-goes
returns-in_err-push-clause-goes g c told = handed (Goes (each (input_bytes []) (map file_input c.args.paths.now)) (g.T.Tree.files c.args.tree.now)) _ _ c.from_residual-in_err-push.ensures tt

pub returns-in_err-push-clause-reads : goal.returns-in_err-push-clause-reads
returns-in_err-push-clause-reads g c = reads-as-none _ _ _ _ _ _ _ _ _ _ c.from_residual-in_err-push.ensures refl (reads-then _ _ _ _ _ _ _ _ _ _ c.paths.invariant.reads c.in_ok-bytes.ensures.reads)

pub returns-clause-goes : goal.returns-clause-goes
returns-clause-goes g c told =
    each-all (input_bytes []) (map file_input c.args.paths.now) (map file_input (drop c.paths.path-index c.args.paths.now)) (g.T.Tree.files c.args.tree.now) c.paths.read (c.paths.invariant.goes told)
    (ap (map file_input) (last-drop c.args.paths.now c.paths.path-index c.paths-test.false (omega (arith, c.paths.auto.path-index-end))))

pub returns-clause-reads : goal.returns-clause-reads
returns-clause-reads g c = c.paths.invariant.reads
