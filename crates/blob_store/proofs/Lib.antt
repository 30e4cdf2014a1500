pub mod HeldAfterPut
pub mod HeldAfterStoring
pub mod WrittenTwice
pub mod KeyIndex
pub mod PairsByName
pub mod StoreAfterPut
pub mod PublicLaws
mod TriesOnKeeper
pub mod KeptGrows
