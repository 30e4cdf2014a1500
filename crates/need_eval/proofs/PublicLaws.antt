-- The lemmas that proofs of other crates cite.

-- the store at the end of an evaluation is the store at its start with the writes put in
pub use Rattle.need_eval.proofs.StoreIsWritten.{store_is_written}
-- what an evaluation gives is held, where the outputs of all reduced thunks are, as at the start
pub use Rattle.need_eval.proofs.ValuesAreHeld.{values-held, outputs-begin}
-- what is held under a name has it
pub use Rattle.need_eval.proofs.JobsOfThunks.{held-named}
-- the length of a job that is made is known from the thunk; what it is made of, and the inputs one by one
pub use Rattle.need_eval.proofs.JobsOfThunks.{job-length}
pub use Rattle.need_eval.proofs.ReadingStops.{job_of-gives, input_object_gives}
-- one list of writes after another is both together
pub use Rattle.need_eval.proofs.ObjectIsStored.{after_writes-both}
-- the value of a reference by need
pub use Rattle.need_eval.proofs.ValuesAreByNeed.{value_of-is}
