use Rattle.std.proofs.Common.{◌≡◌, length, arith, rules, refl}
use Rattle.lease_table.specs.Table.{leased}
use Rattle.lease_table.proofs.Rows.{chosen, issued-left, altered, read-chosen}
use Rattle.lease_table.proofs.Kept.{jobs-few, passed-kept}
use Rattle.lease_table.proofs.leases.Leases.issue.Goals as goal

pub index-row-requires : goal.index-row-requires
index-row-requires c =
    let w = (chosen c.self.inside.copies c.self.inside.rows.items c.args.job c.self.invariant.2 (rw (← c.self.view_is) at c.requires)).within in
    omega (arith, w)

pub overflow_add-row : goal.overflow_add-row
overflow_add-row c =
    let q = chosen c.self.inside.copies c.self.inside.rows.items c.args.job c.self.invariant.2 (rw (← c.self.view_is) at c.requires) in
    let r = read-chosen c.self.inside.copies c.self.inside.rows.items c.args.job c.index-row.result.now q c.index-row.ensures in
    omega (arith, r.0, c.self.invariant.3)

pub index_mut-requires : goal.index_mut-requires
index_mut-requires c =
    let w = (chosen c.self.inside.copies c.self.inside.rows.items c.args.job c.self.invariant.2 (rw (← c.self.view_is) at c.requires)).within in
    omega (arith, w)

pub push_reserved-requires : goal.push_reserved-requires
push_reserved-requires c =
    let q = issued-left (record { rows = c.self.inside.rows.items; leases = c.self.inside.leases.items; copies = c.self.inside.copies; losses = c.self.inside.losses }) c.args.job c.self.invariant.2 (rw (← c.self.view_is) at c.requires) in
    omega (arith, q, c.self.invariant.0, c.self.invariant.1)

pub invariant_of-self : goal.invariant_of-self
invariant_of-self c =
    let q = issued-left (record { rows = c.self.inside.rows.items; leases = c.self.inside.leases.items; copies = c.self.inside.copies; losses = c.self.inside.losses }) c.args.job c.self.invariant.2 (rw (← c.self.view_is) at c.requires) in
    let e = altered (leased c.len-lease.result) c.self.inside.rows.items c.args.job c.index-row.result.now (leased c.len-lease.result c.index-row.result.now) c.index-row.ensures refl in
    let n : c.len-lease.result ≡ length c.self.inside.leases.items = search rules in
    let chosen' = chosen c.self.inside.copies c.self.inside.rows.items c.args.job c.self.invariant.2 (rw (← c.self.view_is) at c.requires) in
    let kept = rw (← c.pass.ensures) at (passed-kept c.self.inside.pending c.self.inside.rows.items c.self.inside.copies c.args.job (length c.self.inside.leases.items) c.self.invariant.4 chosen') in
    rw (e, n) (omega (arith, q, c.self.invariant.0, c.push_reserved.ensures.len), omega (arith, c.self.invariant.1, c.push_reserved.ensures.capacity), c.self.invariant.2, c.self.invariant.3, kept)

pub returns-clause-issued : goal.returns-clause-issued
returns-clause-issued c =
    let e = altered (leased c.len-lease.result) c.self.inside.rows.items c.args.job c.index-row.result.now (leased c.len-lease.result c.index-row.result.now) c.index-row.ensures refl in
    let n : c.len-lease.result ≡ length c.self.inside.leases.items = search rules in
    rw (← c.self.view_is) (rw (e, c.push_reserved.ensures.items, n) refl)

pub pass-requires-clause-room : goal.pass-requires-clause-room
pass-requires-clause-room c = jobs-few c.self.inside.pending c.self.inside.rows.items c.self.invariant.4

pub pass-requires-clause-job : goal.pass-requires-clause-job
pass-requires-clause-job c =
    let w = (chosen c.self.inside.copies c.self.inside.rows.items c.args.job c.self.invariant.2 (rw (← c.self.view_is) at c.requires)).within in
    omega (arith, w, c.self.invariant.4.room)
