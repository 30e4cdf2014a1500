-- The lemmas that proofs of other crates cite.

-- inferring a build and forcing all placeholders that it leaves gives the tree that the build at once leaves
pub use Rattle.build_law.proofs.ForcingAgrees.{build-agrees}
-- the same of the tools of cards, with the preprocessor over the whole tree
pub use Rattle.build_law.proofs.CppSeesEnough.{cards-agree}
-- the same of the text of a script, each line of which is done in the tree that the line before leaves
pub use Rattle.build_law.proofs.LinesArePlans.{scripts-agree}
