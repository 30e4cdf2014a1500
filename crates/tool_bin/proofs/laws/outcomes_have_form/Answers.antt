use Rattle.tool_bin.proofs.OutcomesHaveForm.{cc1_form, as_form, ld_form, ar_form, ranlib_form, strip_form}
use Rattle.tool_bin.proofs.laws.outcomes_have_form.Goals as goal

pub returns-clause-cc1 : goal.returns-clause-cc1
returns-clause-cc1 c = cc1_form

pub returns-clause-assembler : goal.returns-clause-assembler
returns-clause-assembler c = as_form

pub returns-clause-ld : goal.returns-clause-ld
returns-clause-ld c = ld_form

pub returns-clause-ar : goal.returns-clause-ar
returns-clause-ar c = ar_form

pub returns-clause-ranlib : goal.returns-clause-ranlib
returns-clause-ranlib c = ranlib_form

pub returns-clause-strip : goal.returns-clause-strip
returns-clause-strip c = strip_form
