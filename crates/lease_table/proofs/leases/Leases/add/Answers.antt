use Rattle.std.proofs.Common.{arith}
use Rattle.lease_table.proofs.Kept.{jobs-few}
use Rattle.lease_table.proofs.leases.Leases.add.Goals as goal

pub reserve-requires-3 : goal.reserve-requires-3
reserve-requires-3 c =
    let few = jobs-few c.self.inside.pending c.self.inside.rows.items c.self.invariant.4 in
    omega (arith, few, c.self.invariant.4.within, c.self.invariant.4.room)
