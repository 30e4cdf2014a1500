use Rattle.tool_text.proofs.OutcomesHaveForm.{cat_form, fail_form, add_form, fib_form, cpp_form}
use Rattle.tool_text.proofs.laws.outcomes_have_form.Goals as goal

pub returns-clause-cat : goal.returns-clause-cat
returns-clause-cat c = cat_form

pub returns-clause-fail : goal.returns-clause-fail
returns-clause-fail c = fail_form

pub returns-clause-add : goal.returns-clause-add
returns-clause-add c = add_form

pub returns-clause-fib : goal.returns-clause-fib
returns-clause-fib c = fib_form

pub returns-clause-cpp : goal.returns-clause-cpp
returns-clause-cpp c = cpp_form
