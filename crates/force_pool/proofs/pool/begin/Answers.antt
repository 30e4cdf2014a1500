use Rattle.std.proofs.Common.{◌∙◌, length, ap, arith}
use Rattle.force_pool.specs.Links.{marks_of}
use Rattle.force_pool.specs.Sums.{Readiness}
use Rattle.force_pool.proofs.WorkerSums.{parts_are}
use Rattle.force_pool.proofs.pool.begin.Goals as goal

pub returns-clause-ok : goal.returns-clause-ok
returns-clause-ok g c = record {
  marks = ap (λ (b : Readiness). b.marks) c.new-ready.ensures ∙ ap (λ l. marks_of g.L.Link.jobs g.L.Link.faults l) c.links.view_is;
  parts = ap (λ (b : Readiness). b.parts) c.new-ready.ensures ∙ parts_are _ _ _ _ _ _ c.open-start_book.ensures.parts c.open-reply_book.ensures.parts c.open-loss_book.ensures.parts;
}

pub new-ready-requires-clause-slots : goal.new-ready-requires-clause-slots
new-ready-requires-clause-slots g c =
    let v = ap (λ l. length l) c.links.view_is in
    let n = c.len-count.ensures in
    let m = c.in-Ok-with_room.ensures.1 in (c.in-Ok-with_room.ensures.0, omega arith)

pub new-ready-requires-clause-back : goal.new-ready-requires-clause-back
new-ready-requires-clause-back g c =
    let v = ap (λ l. length l) c.links.view_is in
    let n = c.len-count.ensures in
    let m = c.in-Ok-with_room-2.ensures.1 in (c.in-Ok-with_room-2.ensures.0, omega arith)
