pub mod WordJobs
pub mod Failures
