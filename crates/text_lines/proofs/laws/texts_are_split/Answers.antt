use Rattle.text_lines.proofs.CutLemmas.{split_takes, split_again}
use Rattle.text_lines.proofs.laws.texts_are_split.Goals as goal

pub returns-clause-takes : goal.returns-clause-takes
returns-clause-takes c = split_takes

pub returns-clause-again : goal.returns-clause-again
returns-clause-again c = split_again
