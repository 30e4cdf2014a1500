pub mod ItemsMade
pub mod FilesMade
pub mod RefusedOperands
pub mod InputPaths
pub mod PlansAreSmall
pub mod PlansFit
pub mod PublicLaws
