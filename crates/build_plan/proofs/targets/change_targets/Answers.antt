use Rattle.std.proofs.Common.{arith, ◌+◌, drop, map, ap, subst, List}
use Rattle.file_tree.specs.Files.{filed_in}
use Rattle.file_tree.specs.declared.change.Change.{Change}
use Rattle.build_plan.specs.Symbolic.{symbolic}
use Rattle.build_plan.specs.Way.{change_of}
use Rattle.build_plan.specs.StepContracts.{Changes}
use Rattle.build_plan.proofs.CountsAddUp.{files-none, files-then, handed-files}
use Rattle.build_plan.proofs.FilesAreChanged.{HasChanged, changed-all, changed-more, changed-none, changed-stop}
use Rattle.build_plan.proofs.FilesAreFound.{last-drop, next-drop}
use Rattle.build_plan.proofs.WorkGoesOn.{handed}
use Rattle.build_plan.proofs.targets.change_targets.Goals as goal

pub targets-init : goal.targets-init
targets-init g c = record { made = λ told. changed-none _ _; fares = files-none _ _ _ _ _ _ tt }

pub targets-preserved : goal.targets-preserved
targets-preserved g c =
    let change = change_of symbolic c.args.items.now in
    let all = map change c.args.targets.now in
    let later = map change (drop (c.targets.target-index + 1) c.args.targets.now) in
    record {
      made = λ told.
          changed-more all (change c.target-item.result) later (filed_in g.T.Tree.files g.T.Tree.changes c.args.tree.now) (filed_in g.T.Tree.files g.T.Tree.changes c.targets.tree) (filed_in g.T.Tree.files g.T.Tree.changes c.change_target.new.tree)
          (subst (λ (left : List Change). HasChanged all left (filed_in g.T.Tree.files g.T.Tree.changes c.args.tree.now) (filed_in g.T.Tree.files g.T.Tree.changes c.targets.tree)) (ap (map change) (next-drop c.args.targets.now c.targets.target-index c.target-item.result c.targets-test.true c.target-item.is)) (c.targets.invariant.made told))
          (c.in_ok-change_target.ensures.changes told);
      fares = files-then _ _ _ _ _ _ _ _ _ c.targets.invariant.fares (files-then _ _ _ _ _ _ _ _ _ c.in_ok-change_target.ensures.fares (files-none _ _ _ _ _ _ tt));
    }

pub returns-in_err-change_target-clause-changes : goal.returns-in_err-change_target-clause-changes
returns-in_err-change_target-clause-changes g c told =
    let change = change_of symbolic c.args.items.now in
    let all = map change c.args.targets.now in
    let later = map change (drop (c.targets.target-index + 1) c.args.targets.now) in
    handed (Changes all (filed_in g.T.Tree.files g.T.Tree.changes c.args.tree.now) (filed_in g.T.Tree.files g.T.Tree.changes c.change_target.new.tree)) _ c.in_err-change_target.field-0.0 c.from_residual.ensures
    (changed-stop (Unit {0}) (Unit {0}) all (change c.target-item.result) later (filed_in g.T.Tree.files g.T.Tree.changes c.args.tree.now) (filed_in g.T.Tree.files g.T.Tree.changes c.targets.tree) (filed_in g.T.Tree.files g.T.Tree.changes c.change_target.new.tree) c.in_err-change_target.field-0.0
    (subst (λ (left : List Change). HasChanged all left (filed_in g.T.Tree.files g.T.Tree.changes c.args.tree.now) (filed_in g.T.Tree.files g.T.Tree.changes c.targets.tree)) (ap (map change) (next-drop c.args.targets.now c.targets.target-index c.target-item.result c.targets-test.true c.target-item.is)) (c.targets.invariant.made told))
    (c.in_err-change_target.ensures.changes told))

pub returns-in_err-change_target-clause-fares : goal.returns-in_err-change_target-clause-fares
returns-in_err-change_target-clause-fares g c = files-then _ _ _ _ _ _ _ _ _ c.targets.invariant.fares (handed-files _ _ _ _ _ _ _ _ c.from_residual.ensures c.in_err-change_target.ensures.fares)

pub returns-clause-changes : goal.returns-clause-changes
returns-clause-changes g c told =
    let change = change_of symbolic c.args.items.now in
    let all = map change c.args.targets.now in
    changed-all all (filed_in g.T.Tree.files g.T.Tree.changes c.args.tree.now) (filed_in g.T.Tree.files g.T.Tree.changes c.targets.tree)
    (subst (λ (left : List Change). HasChanged all left (filed_in g.T.Tree.files g.T.Tree.changes c.args.tree.now) (filed_in g.T.Tree.files g.T.Tree.changes c.targets.tree)) (ap (map change) (last-drop c.args.targets.now c.targets.target-index c.targets-test.false (omega (arith, c.targets.auto.target-index-end)))) (c.targets.invariant.made told))

pub returns-clause-fares : goal.returns-clause-fares
returns-clause-fares g c = files-then _ _ _ _ _ _ _ _ _ c.targets.invariant.fares (files-none _ _ _ _ _ _ tt)
