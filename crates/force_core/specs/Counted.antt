-- The rows of a table, counted from all its leases.
use Rattle.std.specs.Prelude.{◌≡◌, ◌≤◌, ℕ, ◌+◌, List, [], ◌∷◌, length, map, slice_get, Bool, Some, ◌==◌, ◌&&◌, not, if◌then◌else◌}
use Rattle.lease_table.specs.declared.row.Row.{Row}
use Rattle.lease_table.specs.declared.row.Lease.{Lease}
use Rattle.lease_table.specs.Table.{Table}
use Rattle.force_core.specs.Book.{AllBelow}

-- whether a lease is of this job and was not lost, as a number
abbrev pub counts : ℕ → Lease → ℕ
counts id l = if (l.job == id) && not l.lost then 1 else 0

-- how many leases of a job were not lost
abbrev pub running_of : ℕ → List Lease → ℕ
running_of id [] = 0
running_of id (l ∷ ls) = counts id l + running_of id ls

-- the number of a job's last lease, where the first of these has this number and the last one before has that
abbrev pub latest_from : ℕ → ℕ → ℕ → List Lease → ℕ
latest_from id number latest [] = latest
latest_from id number latest (l ∷ ls) = latest_from id (number + 1) (if l.job == id then number else latest) ls

-- the number of a job's last lease
abbrev pub latest_of : ℕ → List Lease → ℕ
latest_of id leases = latest_from id 0 0 leases

-- the rows of jobs by whether they have outcomes, counted from all leases; the first row is that of the job of this number
abbrev pub rows_from : ℕ → List Bool → List Lease → List Row
rows_from id [] leases = []
rows_from id (answered ∷ rest) leases = (record { answered = answered; running = running_of id leases; latest = latest_of id leases }) ∷ rows_from (id + 1) rest leases

-- each row has the number of leases of its job that were not lost, and the number of the last one
pub record IsCounted (t : Table) : Type 0 where
  pub running : (id : ℕ) (r : Row) → slice_get t.rows id ≡ Some r → r.running ≡ running_of id t.leases
  pub latest : (id : ℕ) (r : Row) → slice_get t.rows id ≡ Some r → r.latest ≡ latest_of id t.leases
  pub within : AllBelow (length t.rows) (map (λ l. l.job) t.leases)
  pub copies : 1 ≤ t.copies
