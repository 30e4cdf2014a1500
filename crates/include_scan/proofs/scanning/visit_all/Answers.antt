use Rattle.std.proofs.Common.{◌≡◌, ◌∙◌, [], Ok, Err, sym, ap, subst}
use Rattle.thunk_codec.specs.Files.{Files}
use Rattle.file_tree.specs.Files.{file_read}
use Rattle.text_lines.specs.Among.{is_among}
use Rattle.include_scan.specs.Scanning.{gathered, max_files, visit_file}
use Rattle.include_scan.specs.Queue.{Leaves, Waits}
use Rattle.include_scan.proofs.GatheredFileByFile.{scan_first, scan_fault}
use Rattle.include_scan.proofs.QueueKeepsWaiting.{leaves_fault, none_waits}
use Rattle.include_scan.proofs.scanning.visit_all.Goals as goal

pub returns-in_err-add-clause-exact : goal.returns-in_err-add-clause-exact
returns-in_err-add-clause-exact g c tells none empty =
    let visited = c.in_err-add.ensures.exact (g.T.Tree.files c.args.tree.now) 0 (none_waits (g.T.Tree.files c.args.tree.now) c.args.queue.now none empty)
    (ap (λ keys. is_among keys c.in_ok-copy.field-0) none) (c.in_ok-read.ensures.found tells ∙ ap (λ path. file_read (g.T.Tree.files c.args.tree.now path)) (sym c.in_ok-copy.ensures)) in
    leaves_fault _ c.add.new.self.visited.keys c.in_err-add.field-0.0 c.from_residual-in_err-add.result c.from_residual-in_err-add.ensures
    (scan_fault (g.T.Tree.files c.args.tree.now) c.args.folders.now c.args.file.now c.in_err-add.field-0.0 c.add.new.self.visited.keys c.add.new.self.visited.keys
    (subst (λ path. Leaves (visit_file (g.T.Tree.files c.args.tree.now) path []) c.add.new.self.visited.keys (Err c.in_err-add.field-0.0)) c.in_ok-copy.ensures
    (subst (λ keys. Leaves (visit_file (g.T.Tree.files c.args.tree.now) c.in_ok-copy.field-0 keys) c.add.new.self.visited.keys (Err c.in_err-add.field-0.0)) none visited.0)))

pub returns-clause-exact : goal.returns-clause-exact
returns-clause-exact g c tells none empty =
    let visited = c.in_ok-add.ensures.exact (g.T.Tree.files c.args.tree.now) 0 (none_waits (g.T.Tree.files c.args.tree.now) c.args.queue.now none empty)
    (ap (λ keys. is_among keys c.in_ok-copy.field-0) none) (c.in_ok-read.ensures.found tells ∙ ap (λ path. file_read (g.T.Tree.files c.args.tree.now path)) (sym c.in_ok-copy.ensures)) in
    let first : visit_file (g.T.Tree.files c.args.tree.now) c.args.file.now [] ≡ Ok c.add.new.self.visited.keys =
    sym (ap (λ path. visit_file (g.T.Tree.files c.args.tree.now) path []) c.in_ok-copy.ensures) ∙ (sym (ap (visit_file (g.T.Tree.files c.args.tree.now) c.in_ok-copy.field-0) none) ∙ visited.0) in
    subst (λ wanted. Leaves wanted c.gather.new.queue.visited.keys c.gather.result) (sym (scan_first (g.T.Tree.files c.args.tree.now) c.args.folders.now c.args.file.now c.add.new.self.visited.keys first))
    (subst (λ (files : Files). Waits files 0 c.add.new.self → Leaves (gathered files c.args.folders.now max_files 0 c.add.new.self.visited.keys) c.gather.new.queue.visited.keys c.gather.result)
    (c.in_ok-read.ensures.same tells) (c.gather.ensures.exact tells) visited.1)
