pub mod Files
pub mod InStore
pub mod Memory
pub mod Wanted
pub mod WantAnswers
pub mod Planning
