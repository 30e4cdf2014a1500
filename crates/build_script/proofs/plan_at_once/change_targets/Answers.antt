use Rattle.std.proofs.Common.{arith, ◌+◌, drop, map, ap, subst, List}
use Rattle.file_tree.specs.Files.{filed_in}
use Rattle.file_tree.specs.declared.change.Change.{Change}
use Rattle.build_plan.specs.Way.{change_of}
use Rattle.build_plan.proofs.FilesAreChanged.{HasChanged, changed-all, changed-more, changed-none}
use Rattle.build_plan.proofs.FilesAreFound.{last-drop}
use Rattle.build_script.specs.WorkAtOnce.{Changes, by_cards}
use Rattle.build_script.proofs.CallsCounted.{fares-as, fares-none, fares-then, handed}
use Rattle.build_script.proofs.PlanAtOnce.{change-stop}
use Rattle.build_script.proofs.ToolsAreRun.{map-drop}
use Rattle.build_script.proofs.plan_at_once.change_targets.Goals as goal

pub targets-init : goal.targets-init
targets-init g c = record { made = λ told. changed-none _ _; fares = fares-none _ _ _ _ _ }

pub targets-preserved : goal.targets-preserved
targets-preserved g c =
    let change = change_of by_cards c.args.items.now in
    let all = map change c.args.targets.now in
    let later = map change (drop (c.targets.target-index + 1) c.args.targets.now) in
    record {
      made = λ told.
          changed-more all (change c.target-item.result) later (filed_in g.T.Tree.files g.T.Tree.changes c.args.tree.now) (filed_in g.T.Tree.files g.T.Tree.changes c.targets.tree) (filed_in g.T.Tree.files g.T.Tree.changes c.change_target.new.tree)
          (subst (λ (left : List Change). HasChanged all left (filed_in g.T.Tree.files g.T.Tree.changes c.args.tree.now) (filed_in g.T.Tree.files g.T.Tree.changes c.targets.tree)) (map-drop change c.args.targets.now c.targets.target-index c.target-item.result c.targets-test.true c.target-item.is) (c.targets.invariant.made told))
          (c.in_ok-change_target.ensures.changes told);
      fares = fares-then _ _ _ _ _ _ _ _ c.targets.invariant.fares c.in_ok-change_target.ensures.fares;
    }

pub returns-in_err-change_target-clause-changes : goal.returns-in_err-change_target-clause-changes
returns-in_err-change_target-clause-changes g c told =
    let change = change_of by_cards c.args.items.now in
    let all = map change c.args.targets.now in
    let later = map change (drop (c.targets.target-index + 1) c.args.targets.now) in
    handed (Changes all (filed_in g.T.Tree.files g.T.Tree.changes c.args.tree.now) (filed_in g.T.Tree.files g.T.Tree.changes c.change_target.new.tree)) _ c.in_err-change_target.field-0.0 c.from_residual.ensures
    (change-stop (Unit {0}) (Unit {0}) all (change c.target-item.result) later (filed_in g.T.Tree.files g.T.Tree.changes c.args.tree.now) (filed_in g.T.Tree.files g.T.Tree.changes c.targets.tree) (filed_in g.T.Tree.files g.T.Tree.changes c.change_target.new.tree) c.in_err-change_target.field-0.0
    (subst (λ (left : List Change). HasChanged all left (filed_in g.T.Tree.files g.T.Tree.changes c.args.tree.now) (filed_in g.T.Tree.files g.T.Tree.changes c.targets.tree)) (map-drop change c.args.targets.now c.targets.target-index c.target-item.result c.targets-test.true c.target-item.is) (c.targets.invariant.made told))
    (c.in_err-change_target.ensures.changes told))

pub returns-in_err-change_target-clause-fares : goal.returns-in_err-change_target-clause-fares
returns-in_err-change_target-clause-fares g c = fares-then _ _ _ _ _ _ _ _ c.targets.invariant.fares (fares-as _ _ _ _ _ _ c.in_err-change_target.field-0.0 _ c.from_residual.ensures c.in_err-change_target.ensures.fares)

pub returns-clause-changes : goal.returns-clause-changes
returns-clause-changes g c told =
    let change = change_of by_cards c.args.items.now in
    let all = map change c.args.targets.now in
    changed-all all (filed_in g.T.Tree.files g.T.Tree.changes c.args.tree.now) (filed_in g.T.Tree.files g.T.Tree.changes c.targets.tree)
    (subst (λ (left : List Change). HasChanged all left (filed_in g.T.Tree.files g.T.Tree.changes c.args.tree.now) (filed_in g.T.Tree.files g.T.Tree.changes c.targets.tree)) (ap (map change) (last-drop c.args.targets.now c.targets.target-index c.targets-test.false (omega (arith, c.targets.auto.target-index-end)))) (c.targets.invariant.made told))

pub returns-clause-fares : goal.returns-clause-fares
returns-clause-fares g c = c.targets.invariant.fares
