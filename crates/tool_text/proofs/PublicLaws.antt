-- The laws of the cards that crates above cite.

-- each outcome has the form that its job wants
pub use Rattle.tool_text.proofs.OutcomesHaveForm.{cat_form, fail_form, add_form, fib_form, cpp_form}
