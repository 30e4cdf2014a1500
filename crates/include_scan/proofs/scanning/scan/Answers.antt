use Rattle.std.proofs.Common.{◌≡◌, length, ap, arith}
use Rattle.include_scan.specs.Scanning.{scan_of}
use Rattle.include_scan.proofs.ListedInOrder.{scans_to}
use Rattle.include_scan.proofs.ScannedFilesSuffice.{paths_scanned, paths_there, paths_suffice, paths_suffice_for_jobs}
use Rattle.include_scan.proofs.scanning.scan.Goals as goal

pub returns-clause-scanned : goal.returns-clause-scanned
returns-clause-scanned g c tells =
    paths_scanned (g.T.Tree.files c.args.tree.now) c.args.folders.now c.args.file.now c.visit_all.new.queue.visited.keys c.in_ok-in_order.field-0
    (c.in_ok-visit_all.ensures.exact tells c.new-queue.ensures.visited c.new-queue.ensures.waiting) c.in_ok-in_order.ensures.order

pub returns-clause-suffice : goal.returns-clause-suffice
returns-clause-suffice g c tells =
    paths_suffice (g.T.Tree.files c.args.tree.now) c.args.folders.now c.args.file.now c.visit_all.new.queue.visited.keys c.in_ok-in_order.field-0
    (c.in_ok-visit_all.ensures.exact tells c.new-queue.ensures.visited c.new-queue.ensures.waiting) c.in_ok-in_order.ensures.order

pub returns-clause-there : goal.returns-clause-there
returns-clause-there g c tells =
    paths_there (g.T.Tree.files c.args.tree.now) c.args.folders.now c.args.file.now c.visit_all.new.queue.visited.keys c.in_ok-in_order.field-0
    (c.in_ok-visit_all.ensures.exact tells c.new-queue.ensures.visited c.new-queue.ensures.waiting) c.in_ok-in_order.ensures.order

pub returns-clause-sorted : goal.returns-clause-sorted
returns-clause-sorted g c tells =
    scans_to (scan_of (g.T.Tree.files c.args.tree.now) c.args.folders.now c.args.file.now) c.visit_all.new.queue.visited.keys c.in_ok-in_order.field-0
    (c.in_ok-visit_all.ensures.exact tells c.new-queue.ensures.visited c.new-queue.ensures.waiting) c.in_ok-in_order.ensures.sorted

pub returns-clause-rising : goal.returns-clause-rising
returns-clause-rising g c = c.in_ok-in_order.ensures.order.rising

pub returns-clause-limit : goal.returns-clause-limit
returns-clause-limit g c =
    let none : length c.new-queue.result.visited.keys ≡ 0 = ap length c.new-queue.ensures.visited in
    let few = c.in_ok-visit_all.ensures.few (omega (arith, none)) in
    let number = c.in_ok-in_order.ensures.number in
    omega (arith, few, number)

pub returns-clause-suffice_for_jobs : goal.returns-clause-suffice_for_jobs
returns-clause-suffice_for_jobs g c tells =
    paths_suffice_for_jobs (g.T.Tree.files c.args.tree.now) c.args.folders.now c.args.file.now c.visit_all.new.queue.visited.keys c.in_ok-in_order.field-0
    (c.in_ok-visit_all.ensures.exact tells c.new-queue.ensures.visited c.new-queue.ensures.waiting) c.in_ok-in_order.ensures.order
