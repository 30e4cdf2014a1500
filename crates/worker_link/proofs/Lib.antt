pub mod Inputs
pub mod Servings
pub mod Queues
pub mod Scripts
pub mod RepliesFound
