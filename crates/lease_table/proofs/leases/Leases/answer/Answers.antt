use Rattle.std.proofs.Common.{refl, arith}
use Rattle.lease_table.specs.Table.{as_answered}
use Rattle.lease_table.proofs.Rows.{altered, answered-left}
use Rattle.lease_table.proofs.Kept.{settled-kept}
use Rattle.lease_table.proofs.leases.Leases.answer.Goals as goal

pub returns : goal.returns
returns c =
    let e = altered as_answered c.self.inside.rows.items c.args.job c.index-row.result.now (as_answered c.index-row.result.now) c.index-row.ensures refl in
    rw (← c.self.view_is) (rw e refl)

pub invariant_of-self : goal.invariant_of-self
invariant_of-self c =
    let e = altered as_answered c.self.inside.rows.items c.args.job c.index-row.result.now (as_answered c.index-row.result.now) c.index-row.ensures refl in
    let left = answered-left c.self.inside.copies c.self.inside.rows.items c.args.job in
    rw (e, c.settle.ensures) (omega (arith, left, c.self.invariant.0), c.self.invariant.1, c.self.invariant.2, c.self.invariant.3, settled-kept c.self.inside.pending c.self.inside.rows.items c.args.job c.self.invariant.4)
