pub mod Answer
pub mod Frame
pub mod Reading
pub mod Session
pub mod Gives
pub mod Cut
