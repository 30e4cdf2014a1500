pub mod Suiting
pub mod Jobs
pub mod Denoted
pub mod Agreement
pub mod CardBuilds
pub mod ScriptsAgree
