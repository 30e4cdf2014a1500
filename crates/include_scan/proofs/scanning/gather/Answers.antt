use Rattle.std.proofs.Common.{◌≡◌, ◌≤◌, ◌-◌, ◌+◌, ◌∙◌, ℕ, Ok, Err, length, sym, ap, subst, arith}
use Rattle.object_name.specs.Name.{max_size}
use Rattle.thunk_codec.specs.Files.{Files}
use Rattle.text_lines.specs.Lines.{lines_of}
use Rattle.object_name.proofs.PublicLaws.{tries-trans}
use Rattle.include_scan.specs.Scanning.{after_lines, gathered, max_files}
use Rattle.include_scan.specs.Queue.{Leaves, Visits, Waits}
use Rattle.include_scan.proofs.GatheredFileByFile.{gathered_none, gathered_one, gathered_fault}
use Rattle.include_scan.proofs.QueueKeepsWaiting.{leaves_fault}
use Rattle.include_scan.proofs.scanning.gather.Goals as goal

pub returns-in_default-clause-exact : goal.returns-in_default-clause-exact
returns-in_default-clause-exact g c tells waits =
    let left = c.files.invariant.so_far tells waits in
    sym left.0 ∙ (gathered_none (g.T.Tree.files c.args.tree.now) c.args.folders.now (4096 - c.files.counter) c.files.counter c.files.queue.visited.keys
    (c.in_default.ensures.next (g.T.Tree.files c.args.tree.now) c.files.counter left.1) ∙ ap (λ visited. Ok visited.keys) (sym c.in_default.ensures.kept))

pub returns-in_err-visit_lines-clause-exact : goal.returns-in_err-visit_lines-clause-exact
returns-in_err-visit_lines-clause-exact g c tells waits =
    let left = c.files.invariant.so_far tells waits in
    let next = c.in-Some.ensures.next (g.T.Tree.files c.args.tree.now) c.files.counter left.1 in
    let visited = subst (λ (files : Files). (index : ℕ) → Waits files index c.next.new.self → length c.as_slice.result.now ≤ max_size
    → Visits files index c.visit_lines.new.queue (after_lines files c.args.folders.now c.in-Some.path 1 (lines_of c.as_slice.result.now) c.next.new.self.visited.keys) (Err c.in_err-visit_lines.field-0.0))
    (c.files.invariant.keeps.same tells) (c.in_err-visit_lines.ensures.exact tells) (c.files.counter + 1) next.1.1.1
    (subst (λ bytes. length bytes ≤ max_size) (sym c.as_slice.ensures) next.1.1.0) in
    leaves_fault _ c.visit_lines.new.queue.visited.keys c.in_err-visit_lines.field-0.0 c.from_residual.result c.from_residual.ensures
    (gathered_fault (g.T.Tree.files c.args.tree.now) c.args.folders.now c.files.counter (let low = c.files-test.true in omega (arith, low)) c.files.queue.visited.keys _ c.in-Some.path c.as_slice.result.now
    next.0 (c.as_slice.ensures ∙ next.1.0) _ left.0 c.in_err-visit_lines.field-0.0 c.visit_lines.new.queue.visited.keys c.visit_lines.new.queue.visited.keys
    (subst (λ before. Leaves (after_lines (g.T.Tree.files c.args.tree.now) c.args.folders.now c.in-Some.path 1 (lines_of c.as_slice.result.now) before.keys) c.visit_lines.new.queue.visited.keys (Err c.in_err-visit_lines.field-0.0))
    c.in-Some.ensures.kept visited.0))

pub files-preserved : goal.files-preserved
files-preserved g c = record {
  so_far = λ tells waits.
      let left = c.files.invariant.so_far tells waits in
      let next = c.in-Some.ensures.next (g.T.Tree.files c.args.tree.now) c.files.counter left.1 in
      let visited = subst (λ (files : Files). (index : ℕ) → Waits files index c.next.new.self → length c.as_slice.result.now ≤ max_size
      → (after_lines files c.args.folders.now c.in-Some.path 1 (lines_of c.as_slice.result.now) c.next.new.self.visited.keys ≡ Ok c.visit_lines.new.queue.visited.keys) × Waits files index c.visit_lines.new.queue)
      (c.files.invariant.keeps.same tells) (c.in_ok-visit_lines.ensures.exact tells) (c.files.counter + 1) next.1.1.1
      (subst (λ bytes. length bytes ≤ max_size) (sym c.as_slice.ensures) next.1.1.0) in (
        gathered_one (g.T.Tree.files c.args.tree.now) c.args.folders.now c.files.counter (let low = c.files-test.true in omega (arith, low)) c.files.queue.visited.keys _ c.in-Some.path c.as_slice.result.now
            next.0 (c.as_slice.ensures ∙ next.1.0) _ left.0 c.visit_lines.new.queue.visited.keys
            (subst (λ before. after_lines (g.T.Tree.files c.args.tree.now) c.args.folders.now c.in-Some.path 1 (lines_of c.as_slice.result.now) before.keys ≡ Ok c.visit_lines.new.queue.visited.keys)
            c.in-Some.ensures.kept visited.0),
        visited.1,
      );
  few = λ few. c.in_ok-visit_lines.ensures.few (subst (λ keys. length keys ≤ max_files) (sym (ap (λ visited. visited.keys) c.in-Some.ensures.kept)) (c.files.invariant.few few));
  keeps = record {
    same = λ tells. c.in_ok-visit_lines.ensures.same tells ∙ c.files.invariant.keeps.same tells;
    list = λ tells. c.in_ok-visit_lines.ensures.list tells ∙ c.files.invariant.keeps.list tells;
    tried = λ tells.
        tries-trans c.args.retries g.T.Tree.calls g.T.Tree.faults c.args.tree.now c.files.tree c.visit_lines.new.tree 0 (c.files.invariant.keeps.tried tells) (c.in_ok-visit_lines.ensures.tries tells);
    later = let before = c.files.invariant.keeps.later in let more = c.in_ok-visit_lines.ensures.later in omega (arith, before, more);
  };
}

pub returns-clause-exact : goal.returns-clause-exact
returns-clause-exact g c tells waits =
    let left = c.files.invariant.so_far tells waits in
    let none : 4096 - c.files.counter ≡ 0 = let end = c.files-test.false in omega (arith, end) in
    sym left.0 ∙ ap (λ more. gathered (g.T.Tree.files c.args.tree.now) c.args.folders.now more c.files.counter c.files.queue.visited.keys) none
