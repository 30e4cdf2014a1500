pub mod ChangedTwice
pub mod TreeAsMap
pub mod FirstRepeated
pub mod GatheredRefs
mod FirstComponent
pub mod ChangesGrow
pub mod RefusalsStay
pub mod PublicLaws
