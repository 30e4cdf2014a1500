pub mod Untold
pub mod Words
