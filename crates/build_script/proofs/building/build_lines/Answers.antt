use Rattle.std.proofs.Common.{arith}
use Rattle.file_tree.specs.Files.{filed_in}
use Rattle.build_plan.proofs.FilesAreFound.{last-drop}
use Rattle.build_script.specs.Building.{BuildsAs}
use Rattle.build_script.specs.WorkAtOnce.{FaresAs}
use Rattle.build_script.proofs.CallsCounted.{fares-none}
use Rattle.build_script.proofs.LinesInOrder.{as-ok, as-then, built-all, built-fault, built-more, built-none, fares-more, line-handed}
use Rattle.build_script.proofs.building.build_lines.Goals as goal

pub lines-init : goal.lines-init
lines-init g c = record { built = λ told. built-none _ _; fares = fares-none _ _ _ _ _ }

pub lines-preserved : goal.lines-preserved
lines-preserved g c = record {
  built = λ told.
      built-more c.args.lines.now (filed_in g.T.Tree.files g.T.Tree.changes c.args.tree.now) (filed_in g.T.Tree.files g.T.Tree.changes c.lines.tree) (filed_in g.T.Tree.files g.T.Tree.changes c.build_line.new.tree) c.lines.line-index c.lines.commands (c.lines.invariant.built told) c.line-item.result c.lines-test.true c.line-item.is
      c.in_ok-more.more _ (c.in_ok-more.ensures.goes told) (omega arith);
  fares = fares-more _ _ _ _ _ _ _ _ c.lines.invariant.fares c.in_ok-more.ensures.fares;
}

pub returns-in_err-more-clause-exact : goal.returns-in_err-more-clause-exact
returns-in_err-more-clause-exact g c told =
    line-handed (BuildsAs c.args.lines.now (filed_in g.T.Tree.files g.T.Tree.changes c.args.tree.now) (filed_in g.T.Tree.files g.T.Tree.changes c.build_line.new.tree)) _ c.in_err-more.field-0.0 c.from_residual.ensures
    (built-fault c.args.lines.now (filed_in g.T.Tree.files g.T.Tree.changes c.args.tree.now) (filed_in g.T.Tree.files g.T.Tree.changes c.lines.tree) (filed_in g.T.Tree.files g.T.Tree.changes c.build_line.new.tree) c.lines.line-index c.lines.commands (c.lines.invariant.built told) c.line-item.result c.lines-test.true c.line-item.is
    c.in_err-more.field-0.0 (c.in_err-more.ensures.goes told))

pub returns-in_err-more-clause-fares : goal.returns-in_err-more-clause-fares
returns-in_err-more-clause-fares g c = line-handed (FaresAs _ _ _ _ _ _) _ c.in_err-more.field-0.0 c.from_residual.ensures (as-then _ _ _ _ _ _ _ _ c.lines.invariant.fares c.in_err-more.ensures.fares)

pub returns-clause-exact : goal.returns-clause-exact
returns-clause-exact g c told = built-all c.args.lines.now _ _ c.lines.line-index c.lines.commands (c.lines.invariant.built told) (last-drop c.args.lines.now c.lines.line-index c.lines-test.false (omega (arith, c.lines.auto.line-index-end)))

pub returns-clause-fares : goal.returns-clause-fares
returns-clause-fares g c = as-ok _ _ _ _ _ _ _ c.lines.invariant.fares
