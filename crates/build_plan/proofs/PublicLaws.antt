-- The lemmas that proofs of other crates cite.

-- four digits are digits, and numbers rise as they do
pub use Rattle.build_plan.proofs.KnownPaths.{four_are_digits}
pub use Rattle.build_plan.proofs.NumbersRise.{numbers_rise}
-- arguments and inputs that make a thunk with the one output of a stage
pub use Rattle.build_plan.proofs.StagesFit.{stage_fits}
-- before anything is done nothing has changed
pub use Rattle.build_plan.proofs.MemoryStops.{stopped_before}
