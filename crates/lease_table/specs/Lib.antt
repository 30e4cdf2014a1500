pub mod Table
pub mod Pending
