pub mod Cards
pub mod CardsFit
