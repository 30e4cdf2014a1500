use Rattle.std.proofs.Common.{List, length, arith, ap, sym, ◌∙◌}
use Rattle.std.proofs.lemmas.List.{length-map}
use Rattle.force_pool.specs.Links.{Mark}
use Rattle.force_pool.specs.Sums.{Readiness}
use Rattle.force_pool.proofs.ready.start_all.Goals as goal

pub links-init : goal.links-init
links-init g c =
    let i = c.ready.invariant in
    let v = c.ready.view_is in
    let r = c.ready.inside in
    let marks = ap (λ (b : Readiness). b.marks) v in
    let rest = c.into_iter-link-iterator.ensures.into_iter_gives.0 in
    let n = sym (length-map r.links.items (λ x. record { sent = g.L.Link.jobs x; faults = g.L.Link.faults x })) ∙ ap (λ (l : List Mark). length l) marks in
    let m = ap (λ l. length l) rest in
    let none = ap (λ l. length l) i.0 in
    let starts = ap (λ (b : Readiness). b.parts.starts) v in
    let replies = ap (λ (b : Readiness). b.parts.replies) v in
    let losses = ap (λ (b : Readiness). b.parts.losses) v in
    let s = r.slots.ok.0 in
    let k = r.links.ok.0 in (
      rw (i.0, rest) marks,
      omega (arith, n, m, none, s),
      omega (arith, n, i.1),
      omega (arith, m, i.4),
      omega (arith, m, i.5),
      omega (arith, m, i.6),
      omega (arith, none, s, starts),
      omega (arith, none, s, replies),
      omega (arith, none, s, losses),
      i.7,
      i.8,
      i.9,
      i.10,
      i.2,
      omega (arith, n, k, c.len-left.ensures),
      omega (arith, k, i.3, c.len-left.ensures),
    )
