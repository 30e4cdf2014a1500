use Rattle.std.proofs.Common.{◌++◌, ◌∷◌, [], ap, ◌∙◌, arith, List, ℕ}
use Rattle.std.proofs.lemmas.Grind.{common_steps}
use Rattle.force_pool.proofs.JobsSettled.{settles-taken}
use Rattle.force_pool.proofs.settled.settle.Goals as goal

pub jobs-preserved-in-Some-taken : goal.jobs-preserved-in-Some-taken
jobs-preserved-in-Some-taken g c =
    let t = rw c.in-Some-taken.is at c.in_ok-taken.ensures.some in
    let s = settles-taken c.args.book.now c.jobs.book c.settle_one.new.book c.jobs.yielded c.jobs.ids.items c.jobs.left c.settle_one.new.left c.in-Some.prepared c.in-Some-taken.id c.jobs.invariant.0 t in
    let ids = c.push_reserved.ensures.items ∙ ap (λ (l : List ℕ). l ++ c.in-Some-taken.id ∷ []) c.reserve.ensures.items in
    (rw ids s, grind (arith, common_steps))
