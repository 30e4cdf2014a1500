-- The lemmas that proofs of other crates cite.

-- the paths that are listed are the scanned files, and suffice
pub use Rattle.include_scan.proofs.ScannedFilesSuffice.{paths_suffice, paths_scanned}
