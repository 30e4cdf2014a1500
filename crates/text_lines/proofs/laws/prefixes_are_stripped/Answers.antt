use Rattle.text_lines.proofs.CutLemmas.{strip_prefix_takes, strip_prefix_again}
use Rattle.text_lines.proofs.laws.prefixes_are_stripped.Goals as goal

pub returns-clause-takes : goal.returns-clause-takes
returns-clause-takes c = strip_prefix_takes

pub returns-clause-again : goal.returns-clause-again
returns-clause-again c = strip_prefix_again
