use Rattle.std.proofs.Common.{arith, ◌≡◌, Ok, Err, Some, None, refl, sym, ap, subst, ◌+◌, ◌∙◌, drop}
use Rattle.file_tree.specs.Files.{Files, file_read}
use Rattle.file_tree.specs.declared.refusal.FileRefusal.TheVariants.{NoFile}
use Rattle.build_plan.specs.Doing.{File}
use Rattle.build_plan.proofs.FilesAreFound.{last-drop, next-drop}
use Rattle.build_script.specs.WorkAtOnce.{Finds, bytes_if_there, first_bytes}
use Rattle.build_script.proofs.BytesAreFound.{finds-fault, first-found, first-none, first-passes, first-refused}
use Rattle.build_script.proofs.CallsCounted.{handed, reads-as, reads-as-none, reads-none, reads-then}
use Rattle.build_script.proofs.file_bytes.read_first.Goals as goal

pub places-init : goal.places-init
places-init g c = record { left = λ told. refl; reads = reads-none _ _ _ _ _ _ _ }

pub places-preserved : goal.places-preserved
places-preserved g c =
    let files = g.T.Tree.files c.args.tree.now in
    let place = c.place-item.result in
    record {
      left = λ told.
          c.places.invariant.left told
          ∙ ap (first_bytes files c.args.missing.now) (next-drop c.args.places.now c.places.place-index place c.places-test.true c.place-item.is)
          ∙ first-passes files c.args.missing.now place (drop (c.places.place-index + 1) c.args.places.now)
          (subst (λ (files : Files). bytes_if_there place (file_read (files place)) ≡ Ok None) (c.places.invariant.reads.same told) (c.in_ok-bytes.ensures.exact told ∙ ap (λ found. Ok found) c.in_default.is));
      reads = reads-then _ _ _ _ _ _ _ _ _ _ c.places.invariant.reads c.in_ok-bytes.ensures.reads;
    }

pub returns-in_err-bytes-clause-exact : goal.returns-in_err-bytes-clause-exact
returns-in_err-bytes-clause-exact g c told =
    let files = g.T.Tree.files c.args.tree.now in
    let place = c.place-item.result in
    let wanted = first_bytes files c.args.missing.now c.args.places.now in
    handed (Finds wanted) _ c.in_err-bytes.field-0.0 c.from_residual.ensures
    (finds-fault (bytes_if_there place (file_read (g.T.Tree.files c.places.tree place))) wanted c.in_err-bytes.field-0.0
    (λ why e.
    c.places.invariant.left told
    ∙ ap (first_bytes files c.args.missing.now) (next-drop c.args.places.now c.places.place-index place c.places-test.true c.place-item.is)
    ∙ first-refused files c.args.missing.now place (drop (c.places.place-index + 1) c.args.places.now) why
    (subst (λ (files : Files). bytes_if_there place (file_read (files place)) ≡ Err why) (c.places.invariant.reads.same told) e))
    (c.in_err-bytes.ensures.exact told))

pub returns-in_err-bytes-clause-reads : goal.returns-in_err-bytes-clause-reads
returns-in_err-bytes-clause-reads g c = reads-then _ _ _ _ _ _ _ _ _ _ c.places.invariant.reads (reads-as _ _ _ _ _ _ _ _ c.in_err-bytes.field-0.0 _ c.from_residual.ensures c.in_err-bytes.ensures.reads)

pub returns-in-Some-clause-exact : goal.returns-in-Some-clause-exact
returns-in-Some-clause-exact g c told =
    let files = g.T.Tree.files c.args.tree.now in
    let place = c.place-item.result in
    c.places.invariant.left told
    ∙ ap (first_bytes files c.args.missing.now) (next-drop c.args.places.now c.places.place-index place c.places-test.true c.place-item.is)
    ∙ first-found files c.args.missing.now place (drop (c.places.place-index + 1) c.args.places.now) c.in-Some.bytes
    (subst (λ (files : Files). bytes_if_there place (file_read (files place)) ≡ Ok (Some c.in-Some.bytes)) (c.places.invariant.reads.same told) (c.in_ok-bytes.ensures.exact told ∙ ap (λ found. Ok found) c.in-Some.is))

pub returns-in-Some-clause-reads : goal.returns-in-Some-clause-reads
returns-in-Some-clause-reads g c = reads-then _ _ _ _ _ _ _ _ _ _ c.places.invariant.reads c.in_ok-bytes.ensures.reads

pub returns-in_err-copy-clause-exact : goal.returns-in_err-copy-clause-exact
returns-in_err-copy-clause-exact g c told = handed (Finds _) _ _ c.from_residual-in_err-copy.ensures tt

pub returns-in_err-copy-clause-reads : goal.returns-in_err-copy-clause-reads
returns-in_err-copy-clause-reads g c = reads-as-none _ _ _ _ _ _ _ _ _ _ c.from_residual-in_err-copy.ensures refl c.places.invariant.reads

pub returns-clause-exact : goal.returns-clause-exact
returns-clause-exact g c told =
    c.places.invariant.left told
    ∙ ap (first_bytes (g.T.Tree.files c.args.tree.now) c.args.missing.now) (last-drop c.args.places.now c.places.place-index c.places-test.false (omega (arith, c.places.auto.place-index-end)))
    ∙ first-none (g.T.Tree.files c.args.tree.now) c.args.missing.now ∙ ap (λ path. Err (File (NoFile path))) (sym c.in_ok-copy.ensures)

pub returns-clause-reads : goal.returns-clause-reads
returns-clause-reads g c = c.places.invariant.reads
