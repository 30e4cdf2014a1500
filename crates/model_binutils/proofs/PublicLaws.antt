-- The lemmas that proofs of other crates cite.

-- the thunks of a plan of some words keep the rules of thunks
pub use Rattle.model_binutils.proofs.PlansFit.{plans_fit}
