pub mod CutLemmas
pub mod ReadSoFar
pub mod LineLemmas
pub mod BlankLemmas
pub mod PublicLaws
