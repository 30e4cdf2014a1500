use Rattle.std.proofs.Common.{◌≡◌, ◌∷◌, ◌++◌, [], length, arith, ap, sym, ◌∙◌, subst, append-nil, append_assoc, List}
use Rattle.std.proofs.lemmas.Grind.{common_steps}
use Rattle.std.proofs.lemmas.List.{length_push}
use Rattle.force_pool.specs.Links.{Mark}
use Rattle.force_pool.specs.Sums.{Fits, HasParts}
use Rattle.force_pool.proofs.WorkerSums.{fits-taken}
use Rattle.force_pool.proofs.tally.collect.Goals as goal

pub slots-preserved : goal.slots-preserved
slots-preserved g c =
    let s = c.slots in
    let e : s.slot-iterator.rest.items ≡ c.in-Some.slot ∷ c.next.new.self.rest.items = grind (arith, common_steps) in
    let n = length_push s.yielded c.in-Some.slot in
    let m = ap (λ (l : List Mark). length l) e in
    let inv = s.invariant in (
      rw c.with-tally.ensures (fits-taken g.L.Function.tells g.S.Limits.retries s.yielded c.in-Some.slot s.tally c.end-worker.result inv.0 c.end-worker.ensures),
      rw c.with-tally.ensures (omega (arith, m, inv.1)),
      (append_assoc s.yielded (c.in-Some.slot ∷ []) c.next.new.self.rest.items ∙ ap (λ (l : List Mark). s.yielded ++ l) (sym e)) ∙ inv.2,
      rw c.with-tally.ensures (record { starts = omega (arith, n, inv.3.starts); replies = omega (arith, n, inv.3.replies); losses = omega (arith, n, inv.3.losses) }),
    )

pub returns-clause-fits : goal.returns-clause-fits
returns-clause-fits g c =
    let e : c.slots.slot-iterator.rest.items ≡ [] = grind (arith, common_steps) in
    let whole = sym (append-nil c.slots.yielded) ∙ ap (λ (l : List Mark). c.slots.yielded ++ l) (sym e) ∙ c.slots.invariant.2 in
    subst (λ (l : List Mark). Fits g.L.Function.tells g.S.Limits.retries l c.slots.tally) whole c.slots.invariant.0

pub returns-clause-parts : goal.returns-clause-parts
returns-clause-parts g c =
    let e : c.slots.slot-iterator.rest.items ≡ [] = grind (arith, common_steps) in
    let whole = sym (append-nil c.slots.yielded) ∙ ap (λ (l : List Mark). c.slots.yielded ++ l) (sym e) ∙ c.slots.invariant.2 in
    subst (λ (l : List Mark). HasParts c.args.tally.parts (length l) c.slots.tally.parts) whole c.slots.invariant.3
