pub mod Names
pub mod Notes
pub mod FoundNotes
pub mod HitCases
pub mod PublicLaws
