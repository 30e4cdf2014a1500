-- The lemmas that proofs of other crates cite.

-- a plan of some words has few operands, which are paths and names of libraries, and short arguments
pub use Rattle.model_gcc.proofs.PlansAreSmall.{IsSmall, plan_small}
-- its thunks keep the rules of thunks
pub use Rattle.model_gcc.proofs.PlansFit.{plans_fit}
-- its preprocessor is over the source that is scanned
pub use Rattle.model_gcc.proofs.ScansOfCpp.{scans_are_over}
-- what holds of the steps of each operand and of the linker holds of all its steps
pub use Rattle.model_gcc.proofs.StepsOfPlans.{all_steps}
