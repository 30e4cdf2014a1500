-- The lemmas that proofs of other crates cite.

-- the outcome of each card has the form that its job wants
pub use Rattle.tool_bin.proofs.OutcomesHaveForm.{cc1_form, as_form, ld_form, ar_form, ranlib_form, strip_form}
