-- The lemmas that proofs of other crates cite.

-- the tests of names and REFs are true exactly where they are the same
pub use Rattle.dep_tracker.proofs.NamesAreCompared.{name-self, name-equal, ref-self, ref-equal}
-- what is unknown and what is ready after any calls
pub use Rattle.dep_tracker.proofs.OutcomesAreTracked.{after-tracked, after-known, after-barred, after-one}
-- the thunks that a call isn't about stay unknown, or ready
pub use Rattle.dep_tracker.proofs.OthersStayListed.{unknown-stays, others-ready}
-- a walk from the roots meets what is reachable, nothing else, and in one order
pub use Rattle.dep_tracker.proofs.WalksMeetReach.{meets, only, unique}
