use Rattle.std.proofs.Common.{◌∙◌, ap, refl, List}
use Rattle.lease_table.specs.declared.row.Row.{Row}
use Rattle.lease_table.specs.Table.{choice, is_idle, Table}
use Rattle.std.specs.Prelude.{position}
use Rattle.lease_table.proofs.leases.Leases.choose.Goals as goal

pub returns-in-Some : goal.returns-in-Some
unfolding choice
returns-in-Some c =
    let e = c.in-Some.ensures ∙ ap (λ (v : List Row). position is_idle v) (c.as_slice-rows.ensures.value ∙ ap (λ (t : Table). t.rows) c.self.view_is) in
    rw (← e) refl

pub returns-in-None : goal.returns-in-None
unfolding choice
returns-in-None c =
    let e = c.in-None.ensures ∙ ap (λ (v : List Row). position is_idle v) (c.as_slice-rows.ensures.value ∙ ap (λ (t : Table). t.rows) c.self.view_is) in
    rw (← e) (c.oldest.ensures ∙ rw (c.as_slice-rows.ensures.value, ← c.self.view_is) refl)
