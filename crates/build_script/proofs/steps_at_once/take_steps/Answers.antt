use Rattle.std.proofs.Common.{arith, ◌+◌, [], List, Ok, drop, refl, sym, subst}
use Rattle.file_tree.specs.Files.{Files}
use Rattle.build_plan.specs.Way.{gathered, taken}
use Rattle.build_plan.specs.declared.plan.Step.{Step}
use Rattle.build_plan.proofs.FilesAreFound.{last-drop}
use Rattle.build_script.specs.WorkAtOnce.{Goes, Leads, Stops, by_cards, why_of}
use Rattle.build_script.proofs.CallsCounted.{handed, reads-as, reads-as-none, reads-none, reads-then}
use Rattle.build_script.proofs.JobsAdded.{leads-none}
use Rattle.build_script.proofs.PlanAtOnce.{scan-step, steps-more, steps-stop}
use Rattle.build_script.proofs.steps_at_once.take_steps.Goals as goal

pub steps-init : goal.steps-init
steps-init g c = record {
  goes = λ told.
      subst (λ items. Leads (gathered by_cards c.args.steps.now []) (gathered by_cards c.args.steps.now items) (g.T.Tree.files c.args.tree.now)) (sym c.new-items.ensures)
      (leads-none (gathered by_cards c.args.steps.now []) (gathered by_cards c.args.steps.now []) (g.T.Tree.files c.args.tree.now) (λ w at. refl));
  reads = reads-none _ _ _ _ _ _ _;
}

pub steps-preserved : goal.steps-preserved
steps-preserved g c =
    let files = g.T.Tree.files c.args.tree.now in
    let step = c.step-item.result in
    let item = c.in_ok-item.item in
    record {
      goes = λ told.
          subst (λ items. Leads (gathered by_cards c.args.steps.now []) (gathered by_cards (drop (c.steps.step-index + 1) c.args.steps.now) items) files) (sym c.in_ok-push.ensures.ok)
          (steps-more c.args.steps.now files c.steps.step-index c.steps.items (c.steps.invariant.goes told) step c.steps-test.true c.step-item.is item
          (subst (λ (files : Files). Goes (taken by_cards c.steps.items step) files (Ok item)) (c.steps.invariant.reads.same told) (rw c.as_slice.ensures at (c.in_ok-item.ensures.goes told))));
      reads = reads-then _ _ _ _ _ _ _ _ _ _ c.steps.invariant.reads c.in_ok-item.ensures.reads;
    }

pub take_step-requires : goal.take_step-requires
take_step-requires g c = scan-step c.args.steps.now c.steps.step-index c.step-item.result c.requires c.steps-test.true c.step-item.is

pub returns-in_err-item-clause-goes : goal.returns-in_err-item-clause-goes
returns-in_err-item-clause-goes g c told =
    let files = g.T.Tree.files c.args.tree.now in
    let step = c.step-item.result in
    let fault = c.in_err-item.field-0.0 in
    handed (Goes (gathered by_cards c.args.steps.now []) files) _ fault c.from_residual.ensures
    (steps-stop c.args.steps.now files c.steps.step-index c.steps.items (c.steps.invariant.goes told) step c.steps-test.true c.step-item.is (why_of fault)
    (subst (λ (files : Files). Stops (taken by_cards c.steps.items step) files (why_of fault)) (c.steps.invariant.reads.same told)
    (subst (λ items. Stops (taken by_cards items step) (g.T.Tree.files c.steps.tree) (why_of fault)) c.as_slice.ensures (c.in_err-item.ensures.goes told))))

pub returns-in_err-item-clause-reads : goal.returns-in_err-item-clause-reads
returns-in_err-item-clause-reads g c = reads-then _ _ _ _ _ _ _ _ _ _ c.steps.invariant.reads (reads-as _ _ _ _ _ _ _ _ c.in_err-item.field-0.0 _ c.from_residual.ensures c.in_err-item.ensures.reads)

pub returns-in_err-push-clause-goes : goal.returns-in_err-push-clause-goes
returns-in_err-push-clause-goes g c told = handed (Goes (gathered by_cards c.args.steps.now []) (g.T.Tree.files c.args.tree.now)) _ _ c.from_residual-in_err-push.ensures tt

pub returns-in_err-push-clause-reads : goal.returns-in_err-push-clause-reads
returns-in_err-push-clause-reads g c = reads-as-none _ _ _ _ _ _ _ _ _ _ c.from_residual-in_err-push.ensures refl (reads-then _ _ _ _ _ _ _ _ _ _ c.steps.invariant.reads c.in_ok-item.ensures.reads)

pub returns-clause-goes : goal.returns-clause-goes
returns-clause-goes g c told =
    subst (λ (left : List Step). Leads (gathered by_cards c.args.steps.now []) (gathered by_cards left c.steps.items) (g.T.Tree.files c.args.tree.now))
    (last-drop c.args.steps.now c.steps.step-index c.steps-test.false (omega (arith, c.steps.auto.step-index-end))) (c.steps.invariant.goes told)

pub returns-clause-reads : goal.returns-clause-reads
returns-clause-reads g c = c.steps.invariant.reads
