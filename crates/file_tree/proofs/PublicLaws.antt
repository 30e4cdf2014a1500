-- The lemmas that proofs of other crates cite.

-- what trees tell where nothing is changed, where some changes come after others, and where one failed
pub use Rattle.file_tree.proofs.ChangesGrow.{all_changed-none, same_filed, changed-append, all_changed-append, may_be_changed}
-- a refusal of the first step of a plan is that of the whole
pub use Rattle.file_tree.proofs.RefusalsStay.{refused_whole}
