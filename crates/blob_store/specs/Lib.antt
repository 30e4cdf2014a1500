pub mod Store
pub mod Puts
pub mod Keeping
pub mod Memory
