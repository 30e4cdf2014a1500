use Rattle.std.proofs.Common.{◌+◌, sym, arith}
use Rattle.object_name.proofs.CallLemmas.{none_listed}
use Rattle.object_name.proofs.calls.is_listed.Goals as goal

pub returns-in-None : goal.returns-in-None
returns-in-None c =
    let over = c.in-None.ensures in
    sym (none_listed c.args.failing.now (c.args.count + 1) (λ i. omega (arith, over, c.type_inv.failing i)))
