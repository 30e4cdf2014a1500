pub mod Walk
pub mod Known
pub mod Reach
pub mod Tracked
pub mod Chain
pub mod Listing
pub mod RefSet
