use Rattle.std.proofs.Common.{◌≡◌, refl, ◌≤◌, length, arith}
use Rattle.std.specs.Prelude.{slice_get, Some}
use Rattle.std.proofs.lemmas.Option.{slice_get_read}
use Rattle.lease_table.specs.Table.{unleased, as_lost}
use Rattle.lease_table.proofs.Rows.{altered, open-within, unleased-left}
use Rattle.lease_table.proofs.Kept.{unleased-kept}
use Rattle.lease_table.proofs.leases.Leases.lose.Goals as goal

pub returns : goal.returns
returns c =
    let rows = altered unleased c.self.inside.rows.items c.index.result.now.job c.index-row.result.now (record { answered = c.index-row.result.now.answered; running = c.saturating_sub.result; latest = c.index-row.result.now.latest }) c.index-row.ensures (rw c.saturating_sub.ensures refl) in
    let leases = altered as_lost c.self.inside.leases.items c.args.lease c.index.result.now (as_lost c.index.result.now) c.index.ensures refl in
    let get : slice_get c.self.inside.leases.items c.args.lease ≡ Some c.index.result.now = slice_get_read c.self.inside.leases.items (length c.self.inside.leases.items) c.args.lease c.index.result.now refl (open-within (record { rows = c.self.inside.rows.items; leases = c.self.inside.leases.items; copies = c.self.inside.copies; losses = c.self.inside.losses }) c.args.lease (rw (← c.self.view_is) at c.requires.open)) c.index.ensures in
    rw (← c.self.view_is) (rw (rows, leases, get) refl)

pub invariant_of-self : goal.invariant_of-self
invariant_of-self c =
    let rows = altered unleased c.self.inside.rows.items c.index.result.now.job c.index-row.result.now (record { answered = c.index-row.result.now.answered; running = c.saturating_sub.result; latest = c.index-row.result.now.latest }) c.index-row.ensures (rw c.saturating_sub.ensures refl) in
    let left = unleased-left c.self.inside.copies c.self.inside.rows.items c.index.result.now.job in
    let room : 1 ≤ c.self.inside.losses = rw (← c.self.view_is) at c.requires.room in
    rw rows (omega (arith, left, room, c.self.invariant.0), c.self.invariant.1, c.self.invariant.2, c.self.invariant.3, unleased-kept c.self.inside.pending c.self.inside.rows.items c.index.result.now.job c.self.invariant.4)
