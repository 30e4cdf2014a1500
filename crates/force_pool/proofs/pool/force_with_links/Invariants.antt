use Rattle.std.specs.Prelude.{length}
use Rattle.force_pool.proofs.pool.force_with_links.Given as goal

abbrev pub ghosts-force_under-S-Limits : goal.ghosts-force_under-S-Limits
ghosts-force_under-S-Limits g a = record { workers = length a.links; retries = a.setup.now.retries; copies = a.setup.now.copies }

abbrev pub ghosts-force_under-S-Ledger : goal.ghosts-force_under-S-Ledger
ghosts-force_under-S-Ledger g a = record { name = a.starts.name; parts = a.starts.parts }

abbrev pub ghosts-force_under-P-Ledger : goal.ghosts-force_under-P-Ledger
ghosts-force_under-P-Ledger g a = record { name = a.replies.name; parts = a.replies.parts }

abbrev pub ghosts-force_under-O-Ledger : goal.ghosts-force_under-O-Ledger
ghosts-force_under-O-Ledger g a = record { name = a.losses.name; parts = a.losses.parts }
