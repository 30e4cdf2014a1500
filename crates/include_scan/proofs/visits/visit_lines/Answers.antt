use Rattle.std.proofs.Common.{◌≡◌, ◌∙◌, ℕ, Ok, Err, subst, arith}
use Rattle.thunk_codec.specs.Files.{Files}
use Rattle.tool_text.specs.Directive.{directive_of}
use Rattle.tool_text.specs.IncludeLine.{include_of}
use Rattle.tool_text.specs.Including.{candidates, first_there}
use Rattle.tool_text.specs.Seen.{target_seen}
use Rattle.object_name.proofs.PublicLaws.{tries-trans}
use Rattle.include_scan.specs.Scanning.{visit_found}
use Rattle.include_scan.specs.Queue.{Asks, Visits, Waits}
use Rattle.include_scan.proofs.VisitedLineByLine.{next_number, counted_on, other_line, asked_line, asked_fault, computed_line}
use Rattle.include_scan.proofs.QueueKeepsWaiting.{leaves_fault, no_more}
use Rattle.include_scan.proofs.visits.visit_lines.Goals as goal

pub returns-in-Err-clause-exact : goal.returns-in-Err-clause-exact
returns-in-Err-clause-exact g c tells index waits short =
    let left = c.lines.invariant.so_far tells index waits short in (
      computed_line (g.T.Tree.files c.args.tree.now) c.args.folders.now c.args.path.now c.args.bytes.now c.lines.rest.now c.in-Some.line.now c.in-Some.after.now c.lines.number c.in-Some.ensures
          c.lines.queue.visited.keys _ left.0 c.in-Err.fault c.lines.queue.visited.keys c.in-Err.ensures,
      tt,
    )

pub lines-preserved-in_default-asked : goal.lines-preserved-in_default-asked
lines-preserved-in_default-asked g c = record {
  so_far = λ tells index waits short.
      let left = c.lines.invariant.so_far tells index waits short in (
        other_line (g.T.Tree.files c.args.tree.now) c.args.folders.now c.args.path.now c.args.bytes.now c.lines.rest.now c.in-Some.line.now c.in-Some.after.now c.lines.number c.in-Some.ensures
            c.lines.queue.visited.keys c.saturating_add-number.result
            (next_number (g.T.Tree.files c.args.tree.now) c.args.folders.now c.args.path.now c.args.bytes.now c.lines.rest.now c.in-Some.line.now c.in-Some.after.now c.lines.number c.in-Some.ensures
            c.saturating_add-number.result c.saturating_add-number.ensures c.lines.invariant.counted short)
            _ (subst (λ asked. Asks c.args.path.now c.lines.number (include_of (directive_of c.in-Some.line.now)) (Ok asked)) c.in_default-asked.is c.in-Ok.ensures) left.0,
        left.1,
      );
  counted = counted_on (g.T.Tree.files c.args.tree.now) c.args.folders.now c.args.path.now c.args.bytes.now c.lines.rest.now c.in-Some.line.now c.in-Some.after.now c.lines.number c.in-Some.ensures
      c.saturating_add-number.result c.saturating_add-number.ensures c.lines.invariant.counted;
  few = c.lines.invariant.few;
  keeps = c.lines.invariant.keeps;
}

pub lines-preserved : goal.lines-preserved
lines-preserved g c = record {
  so_far = λ tells index waits short.
      let left = c.lines.invariant.so_far tells index waits short in
      let visited = subst (λ (files : Files). (index : ℕ) → Waits files index c.lines.queue
      → (visit_found files (first_there files (candidates c.args.folders.now c.args.path.now (target_seen c.in-Some-asked.target))) c.lines.queue.visited.keys ≡ Ok c.visit_target.new.queue.visited.keys)
      × Waits files index c.visit_target.new.queue) (c.lines.invariant.keeps.same tells) (c.in_ok-visit_target.ensures.exact tells) index left.1 in (
        asked_line (g.T.Tree.files c.args.tree.now) c.args.folders.now c.args.path.now c.args.bytes.now c.lines.rest.now c.in-Some.line.now c.in-Some.after.now c.lines.number c.in-Some.ensures
            c.lines.queue.visited.keys c.saturating_add-number.result
            (next_number (g.T.Tree.files c.args.tree.now) c.args.folders.now c.args.path.now c.args.bytes.now c.lines.rest.now c.in-Some.line.now c.in-Some.after.now c.lines.number c.in-Some.ensures
            c.saturating_add-number.result c.saturating_add-number.ensures c.lines.invariant.counted short)
            _ (target_seen c.in-Some-asked.target)
            (subst (λ asked. Asks c.args.path.now c.lines.number (include_of (directive_of c.in-Some.line.now)) (Ok asked)) c.in-Some-asked.is c.in-Ok.ensures)
            c.visit_target.new.queue.visited.keys visited.0 left.0,
        visited.1,
      );
  counted = counted_on (g.T.Tree.files c.args.tree.now) c.args.folders.now c.args.path.now c.args.bytes.now c.lines.rest.now c.in-Some.line.now c.in-Some.after.now c.lines.number c.in-Some.ensures
      c.saturating_add-number.result c.saturating_add-number.ensures c.lines.invariant.counted;
  few = λ few. c.in_ok-visit_target.ensures.few (c.lines.invariant.few few);
  keeps = record {
    same = λ tells. c.in_ok-visit_target.ensures.same tells ∙ c.lines.invariant.keeps.same tells;
    list = λ tells. c.in_ok-visit_target.ensures.list tells ∙ c.lines.invariant.keeps.list tells;
    tried = λ tells.
        tries-trans c.args.retries g.T.Tree.calls g.T.Tree.faults c.args.tree.now c.lines.tree c.visit_target.new.tree 0 (c.lines.invariant.keeps.tried tells) (c.in_ok-visit_target.ensures.tries tells);
    later = let before = c.lines.invariant.keeps.later in let more = c.in_ok-visit_target.ensures.later in omega (arith, before, more);
  };
}

pub returns-in_err-visit_target-clause-exact : goal.returns-in_err-visit_target-clause-exact
returns-in_err-visit_target-clause-exact g c tells index waits short =
    let left = c.lines.invariant.so_far tells index waits short in
    let visited = subst (λ (files : Files). (index : ℕ) → Waits files index c.lines.queue
    → Visits files index c.visit_target.new.queue (visit_found files (first_there files (candidates c.args.folders.now c.args.path.now (target_seen c.in-Some-asked.target))) c.lines.queue.visited.keys)
    (Err c.in_err-visit_target.field-0.0)) (c.lines.invariant.keeps.same tells) (c.in_err-visit_target.ensures.exact tells) index left.1 in (
      leaves_fault _ c.visit_target.new.queue.visited.keys c.in_err-visit_target.field-0.0 c.from_residual.result c.from_residual.ensures
          (asked_fault (g.T.Tree.files c.args.tree.now) c.args.folders.now c.args.path.now c.args.bytes.now c.lines.rest.now c.in-Some.line.now c.in-Some.after.now c.lines.number c.in-Some.ensures
          c.lines.queue.visited.keys _ (target_seen c.in-Some-asked.target)
          (subst (λ asked. Asks c.args.path.now c.lines.number (include_of (directive_of c.in-Some.line.now)) (Ok asked)) c.in-Some-asked.is c.in-Ok.ensures) left.0
          c.in_err-visit_target.field-0.0 c.visit_target.new.queue.visited.keys c.visit_target.new.queue.visited.keys visited.0),
      no_more (Waits (g.T.Tree.files c.args.tree.now) index c.visit_target.new.queue) c.from_residual.result c.in_err-visit_target.field-0.0 c.from_residual.ensures,
    )
