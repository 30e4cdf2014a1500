-- Lemmas of force_pool.
pub mod JobsSettled
pub mod QuietBooks
pub mod LeasesSent
pub mod RepliesEntered
pub mod WorkersGoOn
pub mod WorkerSums
pub mod OpenJobs
pub mod KeepersRead
pub mod ReadsAhead
pub mod WalksConclude
pub mod CallsConclude
