pub mod Maybe
pub mod Cuts
pub mod Among
pub mod Lines
pub mod Blanks
