-- The lemmas that proofs of other crates cite.

-- bytes that are put under their name are held, and change nothing that is held under other names
pub use Rattle.blob_store.proofs.HeldAfterPut.{held-put-own, held-put-other, if_named-own}
-- the writes of two lists, one after the other, are the writes of both together
pub use Rattle.blob_store.proofs.HeldAfterStoring.{written-append}
-- what keepers tell where nothing is written, and where some writes come after others
pub use Rattle.blob_store.proofs.KeptGrows.{all_written-none, same_kept, all_written-append}
