-- The lemmas that proofs of other crates cite.

-- a list with one of its elements changed: what was written, its length and its sums
pub use Rattle.lease_table.proofs.Rows.{alter-set, length-alter, sum-alter, altered}
-- what is known of the job that is chosen
pub use Rattle.lease_table.proofs.Rows.{IsChosen, chosen}
